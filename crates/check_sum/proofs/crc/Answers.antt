use Rattle.std.proofs.Common.{refl, ap, ◌∙◌, sym, ℕ, add-one, take-suc, take_all}
use Rattle.std.specs.Prelude.{bit_xor, take, get_or}
use Rattle.check_sum.specs.Crc.{byte_taken, taken, taken_more, crc_of}
use Rattle.check_sum.proofs.crc.Goals as goal

pub loop-b-init : goal.loop-b-init
unfolding taken
loop-b-init c = refl

pub loop-b-preserved : goal.loop-b-preserved
loop-b-preserved c =
    rw (add-one c.loop-b.b-index, take-suc c.args.bytes.now c.loop-b.b-index 0 c.loop-b-test.true)
    (c.take_byte-sum.ensures ∙ ap (λ (s : ℕ). byte_taken s (get_or c.args.bytes.now c.loop-b.b-index 0)) c.loop-b.invariant ∙
    sym (taken_more 4294967295 (take c.loop-b.b-index c.args.bytes.now) (get_or c.args.bytes.now c.loop-b.b-index 0)))

pub returns : goal.returns
unfolding crc_of
returns c = ap (λ (s : ℕ). bit_xor s 4294967295) (c.loop-b.invariant ∙ ap (taken 4294967295) (take_all c.loop-b.b-index c.args.bytes.now c.loop-b-test.false))
