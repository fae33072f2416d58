use Rattle.std.proofs.Common.{refl, ap, arith}
use Rattle.std.specs.Io.KnownBytes.{append_known}
use Rattle.av_base.specs.declared.stop.Stop.TheVariants as stops
use Rattle.aspa_top.specs.declared.task.Question.TheVariants.{Report, Origins, Leaks, Suspects, Peers, Summary, Routes, Neighbours, Silent}
use Rattle.aspa_top.proofs.AnswerLemmas.{all_listed, answered, attested_done, attested_err, attested_grows, details_answer, leaks_answer, neighbours_answer, origins_answer, peers_answer, report_answers, silent_answer, some_listed, summary_answers, suspects_answer}
use Rattle.aspa_top.proofs.DidLemmas.{did_err, nothing}
use Rattle.aspa_top.proofs.KeepLemmas.{keeps_all, keeps_sink}
use Rattle.aspa_top.proofs.StandsLemmas.{added_text}
use Rattle.aspa_top.proofs.answers.answer.Goals as goal

-- `report`
pub returns-in_ok-put_rows-in-Report : goal.returns-in_ok-put_rows-in-Report
returns-in_ok-put_rows-in-Report g c =
    record {
      keeps = record { lent = refl; keeps = keeps_sink _ _ _ _ _ c.put_rows.ensures.listed.grows c.put_rows.ensures.listed.sink_faults };
      did = rw c.in-Report.is (all_listed c.args.working Report _ _ c.requires.begun (report_answers c.args.working _ c.store-store.ensures) _ c.in_ok-put_rows-in-Report.ensures _ refl);
    }

pub returns-in_err-put_rows-in-Report : goal.returns-in_err-put_rows-in-Report
returns-in_err-put_rows-in-Report g c =
    record {
      keeps = record { lent = refl; keeps = keeps_sink _ _ _ _ _ c.put_rows.ensures.listed.grows c.put_rows.ensures.listed.sink_faults };
      did = rw c.in-Report.is (some_listed c.args.working Report _ _ c.requires.begun (report_answers c.args.working _ c.store-store.ensures) _ c.in_err-put_rows-in-Report.ensures c.from_residual.result c.from_residual.ensures.1);
    }

-- `origins`
pub returns-in_ok-list_origins-in-Origins : goal.returns-in_ok-list_origins-in-Origins
returns-in_ok-list_origins-in-Origins g c =
    record {
      keeps = record { lent = refl; keeps = keeps_sink _ _ _ _ _ c.list_origins.ensures.lists.listed.grows c.list_origins.ensures.lists.listed.sink_faults };
      did = rw c.in-Origins.is (all_listed c.args.working Origins _ _ c.requires.begun (origins_answer c.args.working _ refl) _ c.in_ok-list_origins-in-Origins.ensures.lists _ (λ i. record c.args.working { progress = c.in_ok-list_origins-in-Origins.ensures.same i }));
    }

pub returns-in_err-list_origins-in-Origins : goal.returns-in_err-list_origins-in-Origins
returns-in_err-list_origins-in-Origins g c =
    record {
      keeps = record { lent = refl; keeps = keeps_sink _ _ _ _ _ c.list_origins.ensures.lists.listed.grows c.list_origins.ensures.lists.listed.sink_faults };
      did = rw c.in-Origins.is (some_listed c.args.working Origins _ _ c.requires.begun (origins_answer c.args.working _ refl) _ c.in_err-list_origins-in-Origins.ensures.lists c.from_residual-in_err-list_origins-in-Origins.result c.from_residual-in_err-list_origins-in-Origins.ensures.1);
    }

-- `leaks`
pub returns-in_ok-put_leaks-in-Leaks : goal.returns-in_ok-put_leaks-in-Leaks
returns-in_ok-put_leaks-in-Leaks g c =
    record {
      keeps = record { lent = refl; keeps = keeps_sink _ _ _ _ _ c.put_leaks.ensures.listed.grows c.put_leaks.ensures.listed.sink_faults };
      did = rw c.in-Leaks.is (all_listed c.args.working Leaks _ _ c.requires.begun (leaks_answer c.args.working _ c.store-store.ensures _ c.roles.ensures) _ c.in_ok-put_leaks-in-Leaks.ensures _ refl);
    }

pub returns-in_err-put_leaks-in-Leaks : goal.returns-in_err-put_leaks-in-Leaks
returns-in_err-put_leaks-in-Leaks g c =
    record {
      keeps = record { lent = refl; keeps = keeps_sink _ _ _ _ _ c.put_leaks.ensures.listed.grows c.put_leaks.ensures.listed.sink_faults };
      did = rw c.in-Leaks.is (some_listed c.args.working Leaks _ _ c.requires.begun (leaks_answer c.args.working _ c.store-store.ensures _ c.roles.ensures) _ c.in_err-put_leaks-in-Leaks.ensures c.from_residual-in_err-put_leaks-in-Leaks.result c.from_residual-in_err-put_leaks-in-Leaks.ensures.1);
    }

-- `suspects`
pub returns-in_ok-put_suspects-in-Suspects : goal.returns-in_ok-put_suspects-in-Suspects
returns-in_ok-put_suspects-in-Suspects g c =
    record {
      keeps = record { lent = refl; keeps = keeps_sink _ _ _ _ _ c.put_suspects.ensures.listed.grows c.put_suspects.ensures.listed.sink_faults };
      did = rw c.in-Suspects.is (all_listed c.args.working Suspects _ _ c.requires.begun (suspects_answer c.args.working _ c.store-store.ensures) _ c.in_ok-put_suspects-in-Suspects.ensures _ refl);
    }

pub returns-in_err-put_suspects-in-Suspects : goal.returns-in_err-put_suspects-in-Suspects
returns-in_err-put_suspects-in-Suspects g c =
    record {
      keeps = record { lent = refl; keeps = keeps_sink _ _ _ _ _ c.put_suspects.ensures.listed.grows c.put_suspects.ensures.listed.sink_faults };
      did = rw c.in-Suspects.is (some_listed c.args.working Suspects _ _ c.requires.begun (suspects_answer c.args.working _ c.store-store.ensures) _ c.in_err-put_suspects-in-Suspects.ensures c.from_residual-in_err-put_suspects-in-Suspects.result c.from_residual-in_err-put_suspects-in-Suspects.ensures.1);
    }

-- `peers`
pub returns-in_ok-put_peers-in-Peers : goal.returns-in_ok-put_peers-in-Peers
returns-in_ok-put_peers-in-Peers g c =
    record {
      keeps = record { lent = refl; keeps = keeps_sink _ _ _ _ _ c.put_peers.ensures.listed.grows c.put_peers.ensures.listed.sink_faults };
      did = rw c.in-Peers.is (all_listed c.args.working Peers _ _ c.requires.begun (peers_answer c.args.working _ c.store-store.ensures) _ c.in_ok-put_peers-in-Peers.ensures _ refl);
    }

pub returns-in_err-put_peers-in-Peers : goal.returns-in_err-put_peers-in-Peers
returns-in_err-put_peers-in-Peers g c =
    record {
      keeps = record { lent = refl; keeps = keeps_sink _ _ _ _ _ c.put_peers.ensures.listed.grows c.put_peers.ensures.listed.sink_faults };
      did = rw c.in-Peers.is (some_listed c.args.working Peers _ _ c.requires.begun (peers_answer c.args.working _ c.store-store.ensures) _ c.in_err-put_peers-in-Peers.ensures c.from_residual-in_err-put_peers-in-Peers.result c.from_residual-in_err-put_peers-in-Peers.ensures.1);
    }

-- `details` and `routes`
pub returns-in_ok-put_details-in-Routes : goal.returns-in_ok-put_details-in-Routes
returns-in_ok-put_details-in-Routes g c =
    record {
      keeps = record { lent = refl; keeps = keeps_sink _ _ _ _ _ c.put_details.ensures.listed.grows c.put_details.ensures.listed.sink_faults };
      did = rw c.in-Routes.is (all_listed c.args.working (Routes c.in-Routes.conditions) _ _ c.requires.begun (details_answer c.args.working _ c.store-store.ensures c.in-Routes.conditions) _ c.in_ok-put_details-in-Routes.ensures _ refl);
    }

pub returns-in_err-put_details-in-Routes : goal.returns-in_err-put_details-in-Routes
returns-in_err-put_details-in-Routes g c =
    record {
      keeps = record { lent = refl; keeps = keeps_sink _ _ _ _ _ c.put_details.ensures.listed.grows c.put_details.ensures.listed.sink_faults };
      did = rw c.in-Routes.is (some_listed c.args.working (Routes c.in-Routes.conditions) _ _ c.requires.begun (details_answer c.args.working _ c.store-store.ensures c.in-Routes.conditions) _ c.in_err-put_details-in-Routes.ensures c.from_residual-in_err-put_details-in-Routes.result c.from_residual-in_err-put_details-in-Routes.ensures.1);
    }

-- `summary`
pub returns-in_ok-put_summary-in-Summary : goal.returns-in_ok-put_summary-in-Summary
returns-in_ok-put_summary-in-Summary g c =
    record {
      keeps = record { lent = refl; keeps = keeps_all _ _ _ };
      did = rw c.in-Summary.is (answered c.args.working Summary _ _ _ _ _ c.requires.begun (summary_answers c.args.working _ c.store-store.ensures c.summary_of.result c.summary_of.ensures)
          (added_text _ _ _ _ c.in_ok-put_summary-in-Summary.ensures.ok));
    }

pub returns-in_err-put_summary-in-Summary : goal.returns-in_err-put_summary-in-Summary
returns-in_err-put_summary-in-Summary g c = record {
  keeps = record { lent = refl; keeps = keeps_all _ _ _ };
  did = did_err c.args.working _ _ _ c.from_residual-in_err-put_summary-in-Summary.result stops.NoMemory c.from_residual-in_err-put_summary-in-Summary.ensures.1
      (nothing c.args.working _ _ _ refl (ap (append_known (g.W.Sink.written c.args.outside.now.out.now)) c.in_err-put_summary-in-Summary.ensures.err) refl (omega arith));
}

-- `why` and `explain` of a route
pub returns-in-Why-clause-did : goal.returns-in-Why-clause-did
returns-in-Why-clause-did g c = rw c.in-Why.is c.show_reason.ensures.did

pub returns-in-Explain-clause-did : goal.returns-in-Explain-clause-did
returns-in-Explain-clause-did g c = rw c.in-Explain.is c.explain_route.ensures.did

-- `silent`
pub returns-in_ok-put_silent-in-Silent : goal.returns-in_ok-put_silent-in-Silent
returns-in_ok-put_silent-in-Silent g c =
    record {
      keeps = record { lent = refl; keeps = keeps_sink _ _ _ _ _ c.put_silent.ensures.listed.grows c.put_silent.ensures.listed.sink_faults };
      did = rw c.in-Silent.is (all_listed c.args.working Silent _ _ c.requires.begun (silent_answer c.args.working _ c.store-store.ensures) _ c.in_ok-put_silent-in-Silent.ensures _ refl);
    }

pub returns-in_err-put_silent-in-Silent : goal.returns-in_err-put_silent-in-Silent
returns-in_err-put_silent-in-Silent g c =
    record {
      keeps = record { lent = refl; keeps = keeps_sink _ _ _ _ _ c.put_silent.ensures.listed.grows c.put_silent.ensures.listed.sink_faults };
      did = rw c.in-Silent.is (some_listed c.args.working Silent _ _ c.requires.begun (silent_answer c.args.working _ c.store-store.ensures) _ c.in_err-put_silent-in-Silent.ensures c.from_residual-in_err-put_silent-in-Silent.result c.from_residual-in_err-put_silent-in-Silent.ensures.1);
    }

-- `neighbours`
pub returns-in_ok-list_neighbours-in-Neighbours : goal.returns-in_ok-list_neighbours-in-Neighbours
returns-in_ok-list_neighbours-in-Neighbours g c =
    record {
      keeps = record { lent = refl; keeps = keeps_sink _ _ _ _ _ c.list_neighbours.ensures.lists.listed.grows c.list_neighbours.ensures.lists.listed.sink_faults };
      did = rw c.in-Neighbours.is (all_listed c.args.working (Neighbours c.in-Neighbours.asn) _ _ c.requires.begun (neighbours_answer c.args.working _ refl c.in-Neighbours.asn) _ c.in_ok-list_neighbours-in-Neighbours.ensures.lists _ (λ i. record c.args.working { progress = c.in_ok-list_neighbours-in-Neighbours.ensures.same i }));
    }

pub returns-in_err-list_neighbours-in-Neighbours : goal.returns-in_err-list_neighbours-in-Neighbours
returns-in_err-list_neighbours-in-Neighbours g c =
    record {
      keeps = record { lent = refl; keeps = keeps_sink _ _ _ _ _ c.list_neighbours.ensures.lists.listed.grows c.list_neighbours.ensures.lists.listed.sink_faults };
      did = rw c.in-Neighbours.is (some_listed c.args.working (Neighbours c.in-Neighbours.asn) _ _ c.requires.begun (neighbours_answer c.args.working _ refl c.in-Neighbours.asn) _ c.in_err-list_neighbours-in-Neighbours.ensures.lists c.from_residual-in_err-list_neighbours-in-Neighbours.result c.from_residual-in_err-list_neighbours-in-Neighbours.ensures.1);
    }

-- `attests`
pub returns-in_ok-list_attested-in-Attests : goal.returns-in_ok-list_attested-in-Attests
returns-in_ok-list_attested-in-Attests g c =
    let grown = attested_grows c.table.result.now c.in-Attests.customer _ _ c.list_attested.result c.list_attested.ensures in
    record {
      keeps = record { lent = refl; keeps = keeps_sink _ _ _ _ _ grown.0 grown.1 };
      did = rw c.in-Attests.is (attested_done c.args.working _ c.store-store.ensures c.table.result.now c.table.ensures c.in-Attests.customer _ _ c.requires.begun _ c.in_ok-list_attested-in-Attests.ensures _ refl);
    }

pub returns-in_err-list_attested-in-Attests : goal.returns-in_err-list_attested-in-Attests
returns-in_err-list_attested-in-Attests g c =
    let grown = attested_grows c.table.result.now c.in-Attests.customer _ _ c.list_attested.result c.list_attested.ensures in
    record {
      keeps = record { lent = refl; keeps = keeps_sink _ _ _ _ _ grown.0 grown.1 };
      did = rw c.in-Attests.is (attested_err _ c.args.working _ c.store-store.ensures c.table.result.now c.table.ensures c.in-Attests.customer _ _ c.requires.begun _ c.in_err-list_attested-in-Attests.ensures c.from_residual-in_err-list_attested-in-Attests.result c.from_residual-in_err-list_attested-in-Attests.ensures.1);
    }
