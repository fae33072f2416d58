use Rattle.std.proofs.Common.{Some, ap, sym, ◌∙◌}
use Rattle.path_model.specs.declared.addr.Addr.TheVariants.{V4, V6}
use Rattle.av_text.proofs.AddressLemmas.{addr_text_injective}
use Rattle.av_text.proofs.address_text.read_addr.Goals as goal

pub returns-in-Some-clause-again : goal.returns-in-Some-clause-again
returns-in-Some-clause-again c = λ addr put.
    let read = c.in-Some.ensures.some in ap Some (addr_text_injective (V4 c.in-Some.number) addr read.0 put.0 (sym read.1 ∙ put.1))

pub returns-in_ok-read_groups-in-None-clause-again : goal.returns-in_ok-read_groups-in-None-clause-again
returns-in_ok-read_groups-in-None-clause-again c = λ addr put.
    let read = c.in_ok-read_groups-in-None.ensures.some in ap Some (addr_text_injective (V6 c.in_ok-read_groups-in-None.field-0) addr read.0 put.0 (sym read.1 ∙ put.1))
