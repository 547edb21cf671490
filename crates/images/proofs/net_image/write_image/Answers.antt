use mathlib.Core.Path.{◌≡◌, ◌∙◌, sym}
use Prim.Native.Nat.{◌+◌, ◌*◌, ◌≤◌}
use native.Mathlib.Omega.{arith}
use lib.ListN.{length}
use lib.Seq.{take_all}
use Rattle.laws.specs.Parts.{length_first, front_first, length_turn, front_turn}
use Rattle.images.specs.Head.{head_bytes}
use Rattle.images.specs.Net.{slot_at, slot_bytes, net_bytes}
use Rattle.images.specs.Layout.{length_head, length_slot}
use Rattle.images.proofs.net_image.write_image.Goals as goal

pub loop-i-init : goal.loop-i-init
loop-i-init c =
    let n = c.args.n in
    let h = length_head 78 n.present.0 in (
      length_first 16 c.args.d.now _ _ (omega (arith, c.told-d)) c.write_head.ensures h ∙ c.told-d,
      front_first 16 (λ k. slot_bytes (slot_at n k)) c.args.d.now _ _ c.write_head.ensures h,
    )

pub loop-i-preserved : goal.loop-i-preserved
loop-i-preserved c =
    let l = c.loop-i in
    let n = c.args.n in
    let at = 16 + 56 * l.i in
    let h : at + 56 ≤ length l.d = omega (arith, l.invariant.0) in
    let e : 16 + 56 * (l.i + 1) ≡ at + 56 = omega arith in (
      length_turn at 56 l.d _ _ h c.write_slot.ensures (length_slot (slot_at n l.i)) ∙ l.invariant.0,
      rw e
          (front_turn at 56 l.i (λ k. slot_bytes (slot_at n k)) (head_bytes 78 n.present.0) l.d _ h (length_slot (slot_at n l.i))
          c.write_slot.ensures l.invariant.1),
    )

pub returns : goal.returns
unfolding net_bytes
returns c =
    let l = c.loop-i in
    let e : l.i ≡ 64 = omega arith in
    sym (take_all 3600 l.d (omega (arith, l.invariant.0))) ∙ rw e at l.invariant.1
