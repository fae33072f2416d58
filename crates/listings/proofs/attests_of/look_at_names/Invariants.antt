use Rattle.std.proofs.Common.{◌≡◌, ℕ, ◌<◌, length, get_or}
use Rattle.path_model.specs.Name.{IsName}
use Rattle.attestations.specs.Terms.{TermMap}
use Rattle.std.specs.Prelude.{List}
use Rattle.listings.proofs.attests_of.look_at_names.Given as goal

abbrev pub invariant-loop-name : goal.invariant-loop-name
invariant-loop-name l = record {
  end : l.name-index-end ≡ length l.sources;
  names : (k : ℕ) (d : List ℕ × TermMap) → k < l.name-index → IsName (get_or l.sources k d).0;
}
