-- An event with its dependents undone in the lent bytes of a net: after each undoing they are the bytes of the net that `Rolled` speaks of, and in the end
-- those of the outcome's net.
-- In order: `RolledIn`, what each undoing keeps of the bytes, and what the walk has besides (`Walking`); before the first (`walk_first`); the bytes hold good images
-- (`walk_form`, `walk_good`); the walk goes on (`walk_on`), with fewer to come (`walk_less`); it undoes one (`walk_undoable`, `walk_few`) and begins anew (`walk_next`, `walk_anew`), or is at its
-- end (`walk_done`); the same of an equal set (`gives_same`).
-- Assumes nothing.
use Rattle.std.specs.Prelude.{ℕ, ◌+◌, ◌*◌, ◌-◌, ◌<◌, ◌≡◌, true, List, [], ◌∷◌, ◌++◌, Option, Some, None}
use Rattle.std.proofs.Common.{arith, sym, ap, ◌∙◌, subst}
use Rattle.std.specs.Int.Bits.{bit_or}
use Rattle.order.specs.KeySets.{Set, ◌∈◌, count, count_le}
use Rattle.names.specs.Names.{key_count}
use Rattle.names.specs.Localities.{localities}
use Rattle.names.specs.declared.Key.{Key}
use Rattle.names.specs.declared.Localities.{Localities}
use Rattle.images.specs.Net.{net_bytes}
use Rattle.images.specs.Read.{net_of, net_formed}
use Rattle.images.specs.Round.{net_again, net_formed_lem}
use Rattle.images.specs.Shape.{ShapedScript, ShapedNet}
use Rattle.images.specs.declared.Script.{Script}
use Rattle.images.specs.declared.Net.{Net}
use Rattle.nets.specs.Net.{events, dependents}
use Rattle.nets.specs.Undo.{Undoable}
use Rattle.rules.specs.View.{view}
use Rattle.requests.specs.declared.Told.{Told}
use Rattle.step.specs.Lent.{Good, Outcome, told, Gives, done, told_done}
use Rattle.step.specs.Change.{Change, applied}
use Rattle.step.specs.Backward.{undone_at}
use Rattle.step.specs.InPlace.{change_bytes, change_bytes_lem}
use Rattle.step.specs.Way.{way_of}
use Rattle.rollback.specs.Rollback.{undone_all, rolled_back}
use Rattle.rollback.specs.Undone.{Rolled, rolled_first, net_accepted, met_first, met_next, met_less, met_few, met_undoable, rolled_next, still_stands, rolled_all, last_in}

module _ (s : Script) (w : ShapedScript s) (n : Net) (good : Good s n) (e : Key) (past : e.0 ∈ events (view s n)) where
  -- the lent bytes, once these were undone and these localities touched
  pub record RolledIn (turn : ℕ) (freed : Localities) (ks : List ℕ) (b : List ℕ) : Type 0 where
    pub bytes : net_bytes (net_of b) ≡ b
    pub rolled : Rolled s w n good e past turn freed ks (net_of b)

  -- and the event itself is not undone; the walk from it is at the key k
  pub record Walking (turn : ℕ) (freed : Localities) (k : Key) (b : List ℕ) : Type 0 where
    pub ks : List ℕ
    pub here : RolledIn turn freed ks b
    pub stands : e.0 ∈ events (view s (net_of b))
    pub met : k.0 ∈ dependents (view s (net_of b)) e.0

  begin : (turn : ℕ) (freed : Localities) (ks : List ℕ) (b : List ℕ) → RolledIn turn freed ks b → e.0 ∈ events (view s (net_of b)) → Walking turn freed e b
  begin turn freed ks b r stands =
      record { ks = ks; here = r; stands = stands; met = met_first s w n good e past turn freed ks (net_of b) r.rolled stands }

  pub walk_first : ShapedNet n → (b : List ℕ) → net_bytes (net_of b) ≡ b → net_of b ≡ n → Walking 0 (localities 0) e b
  walk_first v b back is =
      begin 0 (localities 0) [] b
      (record { bytes = back; rolled = subst (Rolled s w n good e past 0 (localities 0) []) (sym is) (rolled_first s w n good e past v) })
      (subst (λ (m : Net). e.0 ∈ events (view s m)) (sym is) past)

  module _ (turn : ℕ) (freed : Localities) (k : Key) (b : List ℕ) (g : Walking turn freed k b) where
    abbrev m : Net
    m = net_of b

    -- the bytes hold good images still
    pub walk_form : net_formed b ≡ true
    walk_form = ap net_formed (sym g.here.bytes) ∙ net_formed_lem m g.here.rolled.shaped g.here.rolled.in_range_lem

    pub walk_good : Good s m
    walk_good =
        record {
          script = good.script;
          net = g.here.rolled.in_range_lem;
          accepted = net_accepted s w n good e past turn freed g.ks m g.here.rolled;
        }

    module _ (way : Option Key) (is-way : way ≡ way_of s m k) where
      -- ---- one is in the way

      module _ (f : Key) (behind : way ≡ Some f) where
        pub walk_on : Walking turn freed f b
        walk_on =
            record {
              ks = g.ks;
              here = g.here;
              stands = g.stands;
              met = met_next s w n good e past turn freed g.ks m g.here.rolled g.stands k g.met f (sym is-way ∙ behind);
            }

        pub walk_less : count key_count (dependents (view s m) f.0) < count key_count (dependents (view s m) k.0)
        walk_less = met_less s w n good e past turn freed g.ks m g.here.rolled g.stands k g.met f (sym is-way ∙ behind)

      -- ---- none is

      module _ (clear : way ≡ None) where
        pub walk_undoable : Undoable (view s m) k.0
        walk_undoable = met_undoable s w n good e past turn freed g.ks m g.here.rolled g.stands k g.met (sym is-way ∙ clear)

        pub walk_few : turn < key_count
        walk_few = met_few s w n good e past turn freed g.ks m g.here.rolled g.stands k g.met

        module _ (one : Localities) (last : List ℕ) (undone : (one ≡ (undone_at s m k).touched) × (last ≡ change_bytes (undone_at s m k) b)) (more : Localities)
            (is-more : more ≡ localities (bit_or freed.0 one.0)) where
          abbrev c : Change
          c = undone_at s m k

          after : Rolled s w n good e past (turn + 1) more (g.ks ++ (k.0 ∷ [])) (applied m c)
          after =
              rolled_next s w n good e past turn freed g.ks m g.here.rolled g.stands k g.met walk_undoable more
              (is-more ∙ ap (λ (l : Localities). localities (bit_or freed.0 l.0)) undone.0)

          is : last ≡ net_bytes (applied m c)
          is = undone.1 ∙ ap (change_bytes c) (sym g.here.bytes) ∙ change_bytes_lem m g.here.rolled.shaped.slots c

          again : net_of last ≡ applied m c
          again = ap net_of is ∙ net_again (applied m c) after.shaped after.in_range_lem

          rolled_in : RolledIn (turn + 1) more (g.ks ++ (k.0 ∷ [])) last
          rolled_in =
              record {
                bytes = ap net_bytes again ∙ sym is;
                rolled = subst (Rolled s w n good e past (turn + 1) more (g.ks ++ (k.0 ∷ []))) (sym again) after;
              }

          pub walk_next : (k.0 ≡ e.0 → ⊥) → Walking (turn + 1) more e last
          walk_next other =
              begin (turn + 1) more (g.ks ++ (k.0 ∷ [])) last rolled_in
              (subst (λ (z : Net). e.0 ∈ events (view s z)) (sym again)
              (still_stands s w n good e past turn freed g.ks m g.here.rolled g.stands k g.met walk_undoable other))

          pub walk_done : k.0 ≡ e.0 → (t : Told) → t ≡ told_done (turn + 1) more → Gives t last (rolled_back s n e.0)
          walk_done itself t is-t =
              let all : done (turn + 1) more (net_of last) ≡ rolled_back s n e.0 =
              rolled_all s w n good e past (turn + 1) more (g.ks ++ (k.0 ∷ [])) (net_of last) rolled_in.rolled (last_in g.ks k.0 e.0 itself) in
              (is-t ∙ ap told all, sym rolled_in.bytes ∙ ap (λ (o : Outcome). net_bytes o.net) all)

-- with one undone, less is to come, however far the next walk goes
pub walk_anew : (turn : ℕ) (S : Set) (m : ℕ) → turn < key_count → (key_count + 1) * (key_count - (turn + 1)) + count key_count S < (key_count + 1) * (key_count - turn) + m
walk_anew turn S m few = omega (arith, few, count_le key_count S)

-- ---- an equal set

pub gives_same : (s : Script) (n : Net) (D E : Set) → D ≡ E → (t : Told) (last : List ℕ) → Gives t last (undone_all s n D) → Gives t last (undone_all s n E)
gives_same s n D E e t last = subst (λ (F : Set). Gives t last (undone_all s n F)) e
