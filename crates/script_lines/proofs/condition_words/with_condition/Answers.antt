use Rattle.std.proofs.Common.{refl}
use Rattle.script_lines.proofs.condition_words.with_condition.Goals as goal

pub returns-in_ok-verdict-in-Verdict-clause-spelled : goal.returns-in_ok-verdict-in-Verdict-clause-spelled
returns-in_ok-verdict-in-Verdict-clause-spelled c =
    let read = c.in_ok-verdict-in-Verdict in
    rw c.in-Verdict.is (record { value = read.verdict; spells = read.ensures.spelled.0; more = read.others; others_are = read.ensures.spelled.1; all_are = refl })

pub returns-in_ok-asn-in-Peer-clause-spelled : goal.returns-in_ok-asn-in-Peer-clause-spelled
returns-in_ok-asn-in-Peer-clause-spelled c =
    let read = c.in_ok-asn-in-Peer in
    rw c.in-Peer.is (record { value = read.asn; spells = read.ensures.spelled.0; more = read.others; others_are = read.ensures.spelled.1; all_are = refl })

pub returns-in_ok-addr-in-From-clause-spelled : goal.returns-in_ok-addr-in-From-clause-spelled
returns-in_ok-addr-in-From-clause-spelled c =
    let read = c.in_ok-addr-in-From in
    rw c.in-From.is (record { value = read.addr; spells = read.ensures.spelled.0; more = read.others; others_are = read.ensures.spelled.1; all_are = refl })

pub returns-in_ok-prefix-in-Prefix-clause-spelled : goal.returns-in_ok-prefix-in-Prefix-clause-spelled
returns-in_ok-prefix-in-Prefix-clause-spelled c =
    let read = c.in_ok-prefix-in-Prefix in
    rw c.in-Prefix.is (record { value = read.prefix; spells = read.ensures.spelled.0; more = read.others; others_are = read.ensures.spelled.1; all_are = refl })

pub returns-in_ok-prefix-in-Within-clause-spelled : goal.returns-in_ok-prefix-in-Within-clause-spelled
returns-in_ok-prefix-in-Within-clause-spelled c =
    let read = c.in_ok-prefix-in-Within in
    rw c.in-Within.is (record { value = read.prefix; spells = read.ensures.spelled.0; more = read.others; others_are = read.ensures.spelled.1; all_are = refl })

pub returns-in_ok-prefix-in-Covering-clause-spelled : goal.returns-in_ok-prefix-in-Covering-clause-spelled
returns-in_ok-prefix-in-Covering-clause-spelled c =
    let read = c.in_ok-prefix-in-Covering in
    rw c.in-Covering.is (record { value = read.prefix; spells = read.ensures.spelled.0; more = read.others; others_are = read.ensures.spelled.1; all_are = refl })

pub returns-in_ok-asn-in-Origin-clause-spelled : goal.returns-in_ok-asn-in-Origin-clause-spelled
returns-in_ok-asn-in-Origin-clause-spelled c =
    let read = c.in_ok-asn-in-Origin in
    rw c.in-Origin.is (record { value = read.asn; spells = read.ensures.spelled.0; more = read.others; others_are = read.ensures.spelled.1; all_are = refl })

pub returns-in_ok-asn-in-Through-clause-spelled : goal.returns-in_ok-asn-in-Through-clause-spelled
returns-in_ok-asn-in-Through-clause-spelled c =
    let read = c.in_ok-asn-in-Through in
    rw c.in-Through.is (record { value = read.asn; spells = read.ensures.spelled.0; more = read.others; others_are = read.ensures.spelled.1; all_are = refl })
