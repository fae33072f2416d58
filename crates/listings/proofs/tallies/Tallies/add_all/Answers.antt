use Rattle.std.proofs.Common.{◌+◌, drop}
use Rattle.listings.proofs.TallyAddLemmas.{adding_at, adding_end, adding_next, adding_room, adding_start}
use Rattle.listings.proofs.tallies.Tallies.add_all.Goals as goal

pub loop-key-init : goal.loop-key-init
loop-key-init g c = adding_start g.K.Ord.cmp c.args.keys.now c.args.routes c.args.self.now c.requires.ascending

pub add-requires : goal.add-requires
add-requires g c =
    let xs = c.args.keys.now in
    let i = c.loop-key.key-index in
    let x = c.key-item.result in
    adding_room g.met.K.Ord.total x (drop (i + 1) xs) xs c.args.routes c.args.self.now c.loop-key.self
    (adding_at g.K.Ord.cmp xs xs c.args.routes i x c.args.self.now c.loop-key.self c.loop-key-test.true c.key-item.is c.loop-key.invariant) c.requires.room

pub loop-key-preserved : goal.loop-key-preserved
loop-key-preserved g c =
    let xs = c.args.keys.now in
    let i = c.loop-key.key-index in
    let x = c.key-item.result in
    adding_next g.met.K.Ord.total x (drop (i + 1) xs) xs c.args.routes c.args.self.now c.loop-key.self c.add.new.self
    (adding_at g.K.Ord.cmp xs xs c.args.routes i x c.args.self.now c.loop-key.self c.loop-key-test.true c.key-item.is c.loop-key.invariant) c.in_ok-add.ensures

pub returns : goal.returns
returns g c = adding_end g.K.Ord.cmp c.args.keys.now c.args.routes c.loop-key.key-index c.args.self.now c.loop-key.self c.loop-key-test.false c.loop-key.invariant
