use Rattle.std.proofs.Common.{◌<◌, ◌⊎◌, List, ℕ, sym, subst}
use Rattle.any_prefix.specs.AnyPrefix.{IsAnyPrefixText}
use Rattle.any_prefix.proofs.TextLemmas.{none_gives}
use Rattle.origin_model.specs.Vrp.{Payload}
use Rattle.path_model.specs.Prefix.{bits_of}
use Rattle.slurm_rules.specs.Form.{prefix_assertion_view}
use Rattle.slurm_rules.specs.Numbers.{IsPayloadOf}
use Rattle.slurm_rules.proofs.PrefixesLemmas.{no_asn, no_max, no_payload, no_prefix}
use Rattle.slurm_rules.proofs.prefixes.read_prefix_assertion.Goals as goal

pub returns-in_default-clause-none : goal.returns-in_default-clause-none
returns-in_default-clause-none c = no_prefix (prefix_assertion_view c.args.assertion.now)
    (λ p is. c.in_default.ensures.none p (subst (λ (t : List ℕ). IsAnyPrefixText t p) (sym c.deref.ensures.value) is))

pub returns-in_default-read_max-clause-none : goal.returns-in_default-read_max-clause-none
returns-in_default-read_max-clause-none c = no_max (prefix_assertion_view c.args.assertion.now) c.in-Some.prefix
    (subst (λ (t : List ℕ). IsAnyPrefixText t c.in-Some.prefix) c.deref.ensures.value c.in-Some.ensures.some) c.in_default-read_max.ensures.none

pub returns-in_default-read_asn-clause-none : goal.returns-in_default-read_asn-clause-none
returns-in_default-read_asn-clause-none c = no_asn (prefix_assertion_view c.args.assertion.now) c.in_default-read_asn.ensures.none

pub returns-clause-none : goal.returns-clause-none
returns-clause-none c =
    let w = prefix_assertion_view c.args.assertion.now in
    let p = c.in-Some.prefix in
    none_gives c.new.result ((c.in-Some-read_max.max < p.len) ⊎ (bits_of p.addr < c.in-Some-read_max.max)) ((v : Payload) → IsPayloadOf w v → ⊥)
    (no_payload w p (subst (λ (t : List ℕ). IsAnyPrefixText t p) c.deref.ensures.value c.in-Some.ensures.some) c.in-Some-read_max.max c.in-Some-read_max.ensures.some) c.new.ensures.none
