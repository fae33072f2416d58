use Rattle.std.proofs.Common.{arith}
use Rattle.std.proofs.lemmas.Result.{on_ok_weaker}
use Rattle.der_reader.proofs.WritingLemmas.{puts_integer, content_1, content_2, content_3, content_4, content_5}
use Rattle.der_reader.proofs.writing.put_u32.Goals as goal

pub returns-in-0-to-127-clause-ok : goal.returns-in-0-to-127-clause-ok
returns-in-0-to-127-clause-ok c =
    let d = c.digits_of-a.result in
    on_ok_weaker c.put.result
    (puts_integer c.args.out.now.items c.put.new.out.items _ c.args.n
    (content_1 d.0 d.1 d.2 d.3 c.args.n (omega arith) (omega arith) (omega arith) (omega arith) c.digits_of-a.ensures (omega arith))
    (omega arith))
    c.put.ensures.ok

pub returns-in-128-to-32767-clause-ok : goal.returns-in-128-to-32767-clause-ok
returns-in-128-to-32767-clause-ok c =
    let d = c.digits_of-a.result in
    on_ok_weaker c.put-in-128-to-32767.result
    (puts_integer c.args.out.now.items c.put-in-128-to-32767.new.out.items _ c.args.n
    (content_2 d.0 d.1 d.2 d.3 c.args.n (omega arith) (omega arith) (omega arith) (omega arith) c.digits_of-a.ensures (omega arith) (omega arith))
    (omega arith))
    c.put-in-128-to-32767.ensures.ok

pub returns-in-32768-to-8388607-clause-ok : goal.returns-in-32768-to-8388607-clause-ok
returns-in-32768-to-8388607-clause-ok c =
    let d = c.digits_of-a.result in
    on_ok_weaker c.put-in-32768-to-8388607.result
    (puts_integer c.args.out.now.items c.put-in-32768-to-8388607.new.out.items _ c.args.n
    (content_3 d.0 d.1 d.2 d.3 c.args.n (omega arith) (omega arith) (omega arith) (omega arith) c.digits_of-a.ensures (omega arith) (omega arith))
    (omega arith))
    c.put-in-32768-to-8388607.ensures.ok

pub returns-in-8388608-to-2147483647-clause-ok : goal.returns-in-8388608-to-2147483647-clause-ok
returns-in-8388608-to-2147483647-clause-ok c =
    let d = c.digits_of-a.result in
    on_ok_weaker c.put-in-8388608-to-2147483647.result
    (puts_integer c.args.out.now.items c.put-in-8388608-to-2147483647.new.out.items _ c.args.n
    (content_4 d.0 d.1 d.2 d.3 c.args.n (omega arith) (omega arith) (omega arith) (omega arith) c.digits_of-a.ensures (omega arith) (omega arith))
    (omega arith))
    c.put-in-8388608-to-2147483647.ensures.ok

pub returns-in_default-clause-ok : goal.returns-in_default-clause-ok
returns-in_default-clause-ok c =
    let d = c.digits_of-a.result in
    on_ok_weaker c.put-in_default.result
    (puts_integer c.args.out.now.items c.put-in_default.new.out.items _ c.args.n
    (content_5 d.0 d.1 d.2 d.3 c.args.n (omega arith) (omega arith) (omega arith) (omega arith) c.digits_of-a.ensures (omega arith) (omega arith))
    (omega arith))
    c.put-in_default.ensures.ok
