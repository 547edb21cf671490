-- Last ones taken away one by one, wherever they are found: whether there is a cycle stays as it was.
--
-- In order: `Peeled`, what of the keys of a word last ones taken in turn leave: at first all (`peeled_first`), one taken (`peeled_next`); where
-- nothing is left there is no cycle (`peeled_empty`), and else there is one exactly when there is one among those left (`peeled_same`).
-- Assumes nothing.
use Rattle.std.specs.Prelude.{◌≡◌, true, List, [], ◌∷◌, ◌<◌}
use Rattle.std.proofs.Common.{sym, ap, ◌∙◌}
use Rattle.laws.specs.Choice.{clash, fails, agree, and_left, and_right, and_both}
use Rattle.order.specs.Graphs.{Graph, Acyclic, Among, Fewer, acyclic_fewer, among_over, among_closed}
use Rattle.order.specs.Peeling.{acyclic}
use Rattle.order.proofs.Peeling.{acyclic_iff}
use Rattle.order.specs.Taking.{done, next, FewerIn, taken_fewer, take_all, emptied}
use Rattle.names.specs.Names.{key_count}
use Rattle.names.specs.KeySets.{is_in, excluding, both, is_empty}
use Rattle.names.specs.declared.Key.{Key}
use Rattle.names.specs.declared.Keys.{Keys}
use Rattle.cycles.specs.Cycles.{members, row_at, edges}
use Rattle.cycles.specs.Laws.{members_excluding, empty_none, Leaves, leaves_in, leaves_trans, edges_among, last_taken}

-- of the keys of s these are left, once some are taken, each a last one of what is left then
abbrev pub Peeled : List Keys → Keys → Keys → Type 0
Peeled rows s left = Leaves (edges rows s) (members s) (members left)

module _ (rows : List Keys) (s : Keys) where
  -- at first all are left
  pub peeled_first : Peeled rows s s
  peeled_first = ([], done)

  module _ (left : Keys) (w : Peeled rows s left) where
    abbrev d : Graph
    d = edges rows s

    abbrev d' : Graph
    d' = edges rows left

    -- a key that is left, and on which none of those left depends, is taken
    pub peeled_next : (after fewer : Keys) (k : Key) → k.0 < key_count → is_in left k ≡ true → after ≡ both (row_at rows k.0) left → is_empty after ≡ true → fewer ≡ excluding left k → Peeled rows s fewer
    peeled_next after fewer k l there ea none ef =
        leaves_trans w
        (k.0 ∷ [], next (last_taken rows s left k.0 l there (ap is_empty (sym ea) ∙ none)) (rw (ef, members_excluding left k.0 l) done))

    -- where nothing is left there is no cycle
    pub peeled_empty : is_empty left ≡ true → acyclic key_count d (members s) ≡ true
    peeled_empty e =
        (acyclic_iff key_count d (members s) (edges_among rows s)).1 (emptied (edges_among rows s) w.1 (empty_none left e))

    -- the edges among those left are edges
    left_fewer : Fewer d' d
    left_fewer e f h =
        let there : members left e ≡ true = and_left (members left e) _ h in
        let rest = and_right (members left e) _ h in
        and_both (members s e) _ (leaves_in w e there)
        (and_both (members s f) _ (leaves_in w f (and_left (members left f) _ rest)) (and_right (members left f) _ rest))

    -- and all those that join two of these
    left_all : FewerIn (members left) d d'
    left_all e f p q h =
        and_both (members left e) _ p (and_both (members left f) _ q (and_right (members s f) _ (and_right (members s e) _ h)))

    -- where those left have no cycle they can be taken too, so that nothing is left
    none_else : Acyclic d' → Acyclic d
    none_else ac =
        let among : Among key_count d' (members left) = edges_among rows left in
        let (ks, R, t) = take_all key_count d' (among_over among) ac (members left) (among_closed among) (members left) among.below in
        let rest : Leaves d (members left) R = (ks, taken_fewer left_all t.taken) in
        emptied (edges_among rows s) (leaves_trans w rest).1 (λ x l. fails (R x) (λ m. clash (R x) m (t.none x (leaves_in rest x m))))

    -- there is a cycle exactly when there is one among those left
    pub peeled_same : acyclic key_count d' (members left) ≡ acyclic key_count d (members s)
    peeled_same =
        let whole = acyclic_iff key_count d (members s) (edges_among rows s) in
        let part = acyclic_iff key_count d' (members left) (edges_among rows left) in
        agree _ _ (λ h. whole.1 (none_else (part.0 h))) (λ h. part.1 (acyclic_fewer left_fewer (whole.0 h)))
