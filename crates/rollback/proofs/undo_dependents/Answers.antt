use mathlib.Core.Path.{◌∙◌, sym, refl}
use borrow.Author.Tests.{eqb-true, eqb-false}
use native.Mathlib.Omega.{arith}
use Rattle.images.specs.Round.{net_back, shaped_script, shaped_net}
use Rattle.rollback.specs.InPlace.{walk_first, walk_form, walk_good, walk_on, walk_less, walk_undoable, walk_few, walk_next, walk_anew, walk_done}
use Rattle.rollback.proofs.undo_dependents.Goals as goal

pub loop-f-init : goal.loop-f-init
loop-f-init c = (
  c.requires.0,
  λ w good past.
      walk_first _ w _ good _ past (shaped_net c.args.net.now c.fits-net) c.args.net.now
      (net_back c.args.net.now c.fits-net c.requires.0.formed) refl,
)

pub loop-f-smaller-in-Some : goal.loop-f-smaller-in-Some
loop-f-smaller-in-Some c =
    let g = c.loop-f.invariant.1 (shaped_script c.args.script.now c.fits-script) c.requires.0.good c.requires.1 in
    omega (arith, walk_less _ _ _ _ _ _ _ _ _ _ g _ c.in_the_way.ensures _ c.in-Some.is)

pub loop-f-preserved-in-Some : goal.loop-f-preserved-in-Some
loop-f-preserved-in-Some c = (c.loop-f.invariant.0, λ w good past. walk_on _ w _ good _ past _ _ _ _ (c.loop-f.invariant.1 w good past) _ c.in_the_way.ensures _ c.in-Some.is)

pub undo-freed-requires : goal.undo-freed-requires
undo-freed-requires c =
    let g = c.loop-f.invariant.1 (shaped_script c.args.script.now c.fits-script) c.requires.0.good c.requires.1 in
    (c.loop-f.invariant.0, walk_undoable _ _ _ _ _ _ _ _ _ _ g _ c.in_the_way.ensures c.in-None.is)

pub overflow_add-undone : goal.overflow_add-undone
overflow_add-undone c =
    let g = c.loop-f.invariant.1 (shaped_script c.args.script.now c.fits-script) c.requires.0.good c.requires.1 in
    omega (arith, walk_few _ _ _ _ _ _ _ _ _ _ g _ c.in_the_way.ensures c.in-None.is)

pub returns-then-eq : goal.returns-then-eq
returns-then-eq c =
    let g = c.loop-f.invariant.1 (shaped_script c.args.script.now c.fits-script) c.requires.0.good c.requires.1 in
    let h = walk_done _ _ _ _ _ _ _ _ _ _ g _ c.in_the_way.ensures c.in-None.is _ _ (c.undo-freed.ensures.value, c.undo-freed.ensures.net_after) _ c.either-touched.ensures (eqb-true _ _ (sym c.eq.ensures ∙ c.if-eq.true)) _ refl in
    record { value = h.0; net_after = h.1 }

pub loop-f-smaller : goal.loop-f-smaller
loop-f-smaller c =
    let g = c.loop-f.invariant.1 (shaped_script c.args.script.now c.fits-script) c.requires.0.good c.requires.1 in
    walk_anew _ _ _ (walk_few _ _ _ _ _ _ _ _ _ _ g _ c.in_the_way.ensures c.in-None.is)

pub loop-f-preserved : goal.loop-f-preserved
loop-f-preserved c =
    let other = eqb-false _ _ (sym c.eq.ensures ∙ c.if-eq.false) in
    let g = c.loop-f.invariant.1 (shaped_script c.args.script.now c.fits-script) c.requires.0.good c.requires.1 in
    let next = walk_next _ _ _ _ _ _ _ _ _ _ g _ c.in_the_way.ensures c.in-None.is _ _ (c.undo-freed.ensures.value, c.undo-freed.ensures.net_after) _ c.either-touched.ensures other in (
      record { size = c.requires.0.size; formed = walk_form _ _ _ _ _ _ _ _ _ _ next; good = walk_good _ _ _ _ _ _ _ _ _ _ next },
      λ w good past. walk_next _ w _ good _ past _ _ _ _ (c.loop-f.invariant.1 w good past) _ c.in_the_way.ensures c.in-None.is _ _ (c.undo-freed.ensures.value, c.undo-freed.ensures.net_after) _ c.either-touched.ensures other,
    )
