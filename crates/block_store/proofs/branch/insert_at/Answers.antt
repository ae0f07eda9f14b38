use Rattle.std.proofs.Common.{◌≡◌, length, refl, arith, rules}
use Rattle.block_store.proofs.Inserts as I
use Rattle.block_store.proofs.branch.insert_at.Goals as goal

pub returns-then-limit-used : goal.returns-then-limit-used
returns-then-limit-used g c = record {
  tables = (omega (arith, c.requires.enough, c.find_gap-gap.ensures.needs, c.if-limit-used.true), refl, refl);
  shape = λ n s fits. s;
}

pub put_new-joined-requires : goal.put_new-joined-requires
put_new-joined-requires g c =
    let o = I.now_open c.requires c.find_gap-gap.ensures c.if-limit-used.false c.open_gap-j.ensures.tables in
    let shape = c.open_gap-j.ensures.shape (I.shut c.requires c.find_gap-gap.ensures c.if-limit-used.false) c.requires.words c.requires.shape in
    I.put_here c.requires o.0 shape o.1 (omega arith) c.left.result c.left.ensures

pub overflow_add-result : goal.overflow_add-result
overflow_add-result g c = let o = I.now_open c.requires c.find_gap-gap.ensures c.if-limit-used.false c.open_gap-j.ensures.tables in search rules

pub returns : goal.returns
returns g c =
    let gap = I.shut c.requires c.find_gap-gap.ensures c.if-limit-used.false in
    let o = I.now_open c.requires c.find_gap-gap.ensures c.if-limit-used.false c.open_gap-j.ensures.tables in
    let shape = c.open_gap-j.ensures.shape gap c.requires.words c.requires.shape in
    let long : length c.open_gap-j.new.blocks ≡ length c.args.blocks.now = omega arith in
    let b = rw c.free.ensures at (c.put_new-joined.ensures (I.put_here c.requires o.0 shape o.1 long c.left.result c.left.ensures)) in
    record {
      tables = I.inserted c.requires o.0 shape o.1 long b;
      shape = λ n s fits. I.inserted_shape c.requires o.0 shape o.1 long b n (c.open_gap-j.ensures.shape gap n s) fits (omega arith);
    }
