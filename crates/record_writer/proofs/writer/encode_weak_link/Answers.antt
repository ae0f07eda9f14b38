use Rattle.std.proofs.Common.{ℕ, ◌-◌, List, length, ap, ◌∙◌, sym, Ok, arith}
use borrow.Rule.Slice.PartMut.{put_mid}
use Rattle.leb128.proofs.PartLaws.{put_written}
use Rattle.source.specs.Meaning.{Side, start_of, end_of}
use Rattle.record.specs.Format.{record_of}
use Rattle.record_writer.proofs.BackLaws.{Fine, fine_as, own, record_short, written_back, not_refused}
use Rattle.record_writer.proofs.writer.encode_weak_link.Goals as goal

pub encoded_len-requires : goal.encoded_len-requires
encoded_len-requires c =
    let s : Side = start_of c.args.source.now in
    let e : Side = end_of c.args.source.now in
    let f : Fine s.0 = fine_as c.start.result s c.start.ensures.value c.in_ok-check_name.ensures c.in_ok-check_client.ensures in
    let g : Fine e.0 = fine_as c.end.result e c.end.ensures c.in_ok-check_name-2.ensures c.in_ok-check_client-2.ensures in
    omega (arith, record_short (record_of s e) s e (own s e c.start.ensures.same_way f g))

pub returns : goal.returns
returns c =
    let s : Side = start_of c.args.source.now in
    let e : Side = end_of c.args.source.now in
    let buf : List ℕ = c.args.buf.now in
    let p : ℕ = c.args.«at» in
    let out : List ℕ = put_mid p (length buf - p) buf c.put.new.part in
    let f : Fine s.0 = fine_as c.start.result s c.start.ensures.value c.in_ok-check_name.ensures c.in_ok-check_client.ensures in
    let g : Fine e.0 = fine_as c.end.result e c.end.ensures c.in_ok-check_name-2.ensures c.in_ok-check_client-2.ensures in
    let form = own s e c.start.ensures.same_way f g in
    let w = put_written buf c.put.new.part (record_of s e) p c.put.ensures.bytes in
    record {
      bytes = (not_refused (length buf) p s e f g (omega (arith, c.encoded_len.ensures)), c.put.ensures.count, w);
      within = omega arith;
      formed = form;
      back = written_back buf out s e p (omega arith) w form ∙ ap (λ n. Ok ((s, e), n)) (sym c.put.ensures.count);
    }
