use mathlib.Core.Path.{◌≡◌, ◌∙◌, ap₂, sym}
use Prim.Native.Nat.{◌<◌}
use native.Mathlib.Omega.{arith}
use mathlib.Core.List.{List}
use lib.ListN.{length, length-set}
use borrow.Author.Count.{below_none}
use Rattle.laws.specs.Lists.{tab_of, store_more}
use Rattle.names.specs.declared.Localities.{Localities}
use Rattle.images.specs.Head.{part_at}
use Rattle.images.specs.Net.{slot0}
use Rattle.images.specs.Read.{slot_of, net_of}
use Rattle.images.specs.InPlace.{slot_part}
use Rattle.images.specs.declared.Slot.{Slot}
use Rattle.std.proofs.Common.{rules}
use Rattle.images.proofs.net_image.net_of.Goals as goal

pub loop-i-init : goal.loop-i-init
loop-i-init c = (search rules, below_none _)

pub loop-i-preserved : goal.loop-i-preserved
loop-i-preserved c =
    let l = c.loop-i in
    let b = c.args.b.now in
    let is = c.slot_at.ensures ∙ sym (slot_part b l.i c.loop-i-test.true) in
    let h : l.i < length l.slots = omega (arith, l.invariant.0) in
    (simp length-set l.invariant.0, store_more _ l.slots l.i _ slot0 h is l.invariant.1)

pub returns : goal.returns
unfolding net_of
returns c =
    let l = c.loop-i in
    let b = c.args.b.now in
    let e : l.i ≡ 64 = omega arith in
    ap₂ (λ (p : Localities) (xs : List Slot). record { present = p; slots = xs }) c.present_in-present.ensures
    (tab_of 64 (λ i. slot_of (part_at 56 b i)) l.slots slot0 l.invariant.0 (rw e at l.invariant.1))
