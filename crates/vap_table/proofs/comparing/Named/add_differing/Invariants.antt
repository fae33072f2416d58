use Rattle.std.specs.FinMap as map
use Rattle.attestations.specs.Entries.{terms_left}
use Rattle.vap_table.specs.Comparing.{lists_of, IsLeft, IsLeftOrLasting}
use Rattle.vap_table.proofs.ComparingLemmas.{Saying}
use Rattle.vap_table.proofs.comparing.Named.add_differing.Given as goal

abbrev pub invariant-loop-customer : goal.invariant-loop-customer
invariant-loop-customer l = Saying (λ q list. IsLeft list (map.get l.others q)) l.fn.self.all (lists_of l.terms) (terms_left l.customer-iterator) l.self.all
    × Saying (λ q list. IsLeftOrLasting list (map.get l.others q)) l.fn.self.ended (lists_of l.terms) (terms_left l.customer-iterator) l.self.ended
