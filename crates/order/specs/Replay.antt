-- Forward again: the accepted nets are exactly those that forward steps reach from accepted nets in which nothing is past.
-- Document 01, "Which nets are accepted" (004, Definition 1).
--
-- In order: `Redoing`, what a forward step must satisfy; `Forwards`, steps in a row; `Origin`; backward steps replayed (`replay`); the law
-- (`accepted_iff`).
-- Assumes nothing.
use Rattle.std.specs.Prelude.{refl, ◌↔◌, true, List, ℕ}
use Rattle.order.specs.KeySets.{◌∉◌}
use Rattle.order.specs.Undoing.{Undoing, Undoes, stay, back, undo, undoes_accepted, undo_all}

pub record Redoing (n : ℕ) (U : Undoing n) : Type 1 where
  -- a done forward step leads from one net to another
  pub Forward : U.Net → U.Net → Type 0
  pub forward_accepted : (a b : U.Net) → U.Accepted a → Forward a b → U.Accepted b
  -- an event that was undone can be done again, which gives the net as it was
  pub redo : (a : U.Net) (x : ℕ) → U.Accepted a → U.Undoable a x → Forward (undo n U a x) a

module _ (n : ℕ) (U : Undoing n) (F : Redoing n U) where
  open U use {Net, Accepted, events}
  open F use {Forward}

  pub data Forwards : Net → Net → Type 0 where
    start : {a : Net} → Forwards a a
    more : {a b c : Net} → Forwards a b → Forward b c → Forwards a c

  -- an accepted net in which nothing is past, and forward steps from there to a
  pub record Origin (a : Net) : Type 0 where
    pub from : Net
    pub accepted : Accepted from
    pub no_past : (x : ℕ) → x ∉ events from
    pub forwards : Forwards from a

  pub replay : {a b : Net} {ks : List ℕ} → Accepted a → Undoes n U a ks b → Forwards b a
  replay ok stay = start
  replay {a = a} ok (back {x = x} u r) = more (replay (U.undo_accepted a x ok u) r) (F.redo a x ok u)

  forwards_accepted : {a b : Net} → Accepted a → Forwards a b → Accepted b
  forwards_accepted ok start = ok
  forwards_accepted ok (more {b = b} {c = c} r s) = F.forward_accepted b c (forwards_accepted ok r) s

  -- all events undone, and done again
  origin : (a : Net) → Accepted a → Origin a
  origin a ok =
      let (ks, b, w) = undo_all n U a ok (λ y. true) (λ e f s m. refl) in
      record { from = b; accepted = undoes_accepted n U ok w.undoes; no_past = λ x. w.none x refl; forwards = replay ok w.undoes }

  pub accepted_iff : (a : Net) → Accepted a ↔ Origin a
  accepted_iff a = (origin a, λ o. forwards_accepted o.accepted o.forwards)
