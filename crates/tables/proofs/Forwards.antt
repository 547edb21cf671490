-- The forward steps are exactly the rules of the table, in every net.
--
-- In order: the net after the step of each kind, as the table has it (`out_net`, `in_net`, `read_net_lem`, `new_net`, `eval_net`, `split_net`); each rule gives
-- a request that is allowed and leads to the same net (`step_forward`); each request that is allowed gives the rule of its kind (`forward_step`, and
-- `can_step` of the net that the step makes); so they are the same relation (`step_iff`).
-- Assumes nothing.
use Rattle.std.specs.Prelude.{◌≡◌, refl, ◌↔◌, true, false, ℕ, ◌<◌}
use Rattle.std.proofs.Common.{sym, ap, ◌∙◌, inr, arith}
use Rattle.std.proofs.lemmas.Bool.{false≢true}
use Rattle.names.specs.Names.{none, key_count}
use Rattle.images.specs.Script.{script_in_range}
use Rattle.images.specs.Shape.{ShapedScript}
use Rattle.images.specs.declared.Script.{Script}
use Rattle.nets.specs.Rules.{Rules, Act, number, acts, aims, uses, second_of, is_there}
use Rattle.nets.specs.Rules
use Rattle.nets.specs.Net.{live, tuple, consumed, Slot, Net, fresh, forget}
use Rattle.nets.specs.Forward.{Request, forward, Can, Forward}
use Rattle.products.specs.Body.{Body}
use Rattle.products.specs.Products.{is_out, is_in, is_read, is_newloc, is_eval, is_split, kind_of, fits, target, tuple_made}
use Rattle.rules.specs.Instance.{rules_of, act_of}
use Rattle.nets.specs.Records.{forget_live}
use Rattle.tables.specs.Terms.{Holds, memory, put, with_locality}
use Rattle.tables.specs.Table.{following, matched, binding, spawned, left, right, Step, Out, In, Read, New, Eval, Split}
use Rattle.tables.specs.Requests.{asks_two, asks_tuple, asks_new, can_two, can_tuple, can_new, exact_two, exact_tuple, exact_new, first_free, second_free}
use Rattle.tables.specs.Puts.{two_is, take_is, one_is, new_is}
use Rattle.tables.specs.Kinds.{is_out_lem, is_in_lem, is_read_lem, is_newloc_lem, is_eval_lem, is_split_lem, kind_is, new_ready, split_ready, out_next, in_next, read_next, new_next, eval_next, split_next, out_second, eval_second, split_second}

module _ (s : Script) (w : ShapedScript s) (range : script_in_range s ≡ true) where
  abbrev R : Rules
  R = rules_of s

  -- ---- the net after a step, as the table has it

  module _ (n : Net (rules_of s)) (k : ℕ) (b : Body) (body : (n.slot k).body ≡ b) where
    -- the contents that a request without a tuple meets: no rule looks at them
    abbrev nobody : Body
    nobody = (forget (n.slot none)).body

    pub out_net : (k' k'' : ℕ) → is_out (kind_of s b) ≡ true → k' < key_count → k'' < key_count
        → forward n (asks_two k k' k'')
        ≡ put k' (fresh live (following s k b b.contents)) (put k'' (fresh tuple (tuple_made s b)) (put k (memory b k' k'' none none) n))
    out_net k' k'' kind p q =
        two_is n k b Rules.out body (is_out_lem (kind_of s b) kind) k' k'' _ _ p q refl refl (out_next s b k nobody none kind)
        (ap (fresh tuple) (out_second s b kind))

    pub in_net : (h k' : ℕ) (t : Body) → is_in (kind_of s b) ≡ true → k' < key_count → Holds n h tuple t
        → forward n (asks_tuple k h k') ≡ put k' (fresh live (following s k b (matched s b t))) (put k (memory b k' none h none) (put h (fresh consumed t) n))
    in_net h k' t kind p held = take_is n k b Rules.take body (is_in_lem (kind_of s b) kind) h k' t _ p refl refl held (in_next s b k t none kind)

    pub read_net_lem : (h k' : ℕ) (t : Body) → is_read (kind_of s b) ≡ true → k' < key_count → Holds n h tuple t
        → forward n (asks_tuple k h k') ≡ put k' (fresh live (following s k b (matched s b t))) (put k (memory b k' none h none) n)
    read_net_lem h k' t kind p held = one_is n k b Rules.read body (is_read_lem (kind_of s b) kind) h k' t _ p refl refl held (read_next s b k t none kind)

    pub new_net : (k' l' : ℕ) → is_newloc (kind_of s b) ≡ true → k' < key_count
        → forward n (asks_new k k' l') ≡ with_locality l' (put k' (fresh live (following s k b (binding s b l'))) (put k (memory b k' none none l') n))
    new_net k' l' kind p = new_is n k b Rules.newloc body (is_newloc_lem (kind_of s b) kind) k' l' _ p refl refl (new_next s b k nobody l' kind)

    pub eval_net : (k' k'' : ℕ) → is_eval (kind_of s b) ≡ true → k' < key_count → k'' < key_count
        → forward n (asks_two k k' k'') ≡ put k' (fresh live (following s k b b.contents)) (put k'' (fresh live (spawned s b)) (put k (memory b k' k'' none none) n))
    eval_net k' k'' kind p q =
        two_is n k b Rules.eval body (is_eval_lem (kind_of s b) kind) k' k'' _ _ p q refl refl (eval_next s b k nobody none kind)
        (ap (fresh live) (eval_second s b kind))

    pub split_net : (k₁ k₂ : ℕ) → is_split (kind_of s b) ≡ true → k₁ < key_count → k₂ < key_count
        → forward n (asks_two k k₁ k₂) ≡ put k₁ (fresh live (left s b)) (put k₂ (fresh live (right s b)) (put k (memory b k₁ k₂ none none) n))
    split_net k₁ k₂ kind p q =
        two_is n k b Rules.split body (is_split_lem (kind_of s b) kind) k₁ k₂ _ _ p q refl refl (split_next s b k nobody none w range kind)
        (ap (fresh live) (split_second s b kind))

  module _ (n m : Net (rules_of s)) where
    -- ---- each rule is a step

    pub step_forward : Step s n m → Forward n m
    step_forward (Out k k' k'' b holds kind ready there f' f'' apart e) =
        record {
          request = asks_two k k' k'';
          can = can_two n k b Rules.out holds (is_out_lem (kind_of s b) kind) refl k' k'' refl refl refl ready (λ h. there) f' f'' apart;
          ends = e ∙ sym (out_net n k b holds.body k' k'' kind f'.is_key f''.is_key);
        }
    step_forward (In k h k' b t holds kind ready there key held here fit f' e) =
        record {
          request = asks_tuple k h k';
          can = can_tuple n k b Rules.take holds (is_in_lem (kind_of s b) kind) refl h k' t refl refl refl ready there key held here fit f';
          ends = e ∙ sym (in_net n k b holds.body h k' t kind f'.is_key held);
        }
    step_forward (Read k h k' b t holds kind ready there key held here fit f' e) =
        record {
          request = asks_tuple k h k';
          can = can_tuple n k b Rules.read holds (is_read_lem (kind_of s b) kind) refl h k' t refl refl refl ready there key held here fit f';
          ends = e ∙ sym (read_net_lem n k b holds.body h k' t kind f'.is_key held);
        }
    step_forward (New k k' l' b holds kind may absent f' e) =
        record {
          request = asks_new k k' l';
          can = can_new n k b Rules.newloc holds (is_newloc_lem (kind_of s b) kind) refl k' l' refl refl refl refl (new_ready s b kind) may absent f';
          ends = e ∙ sym (new_net n k b holds.body k' l' kind f'.is_key);
        }
    step_forward (Eval k k' k'' b holds kind ready there f' f'' apart e) =
        record {
          request = asks_two k k' k'';
          can = can_two n k b Rules.eval holds (is_eval_lem (kind_of s b) kind) refl k' k'' refl refl refl ready (λ h. there) f' f'' apart;
          ends = e ∙ sym (eval_net n k b holds.body k' k'' kind f'.is_key f''.is_key);
        }
    step_forward (Split k k₁ k₂ b holds kind f₁ f₂ apart e) =
        record {
          request = asks_two k k₁ k₂;
          can = can_two n k b Rules.split holds (is_split_lem (kind_of s b) kind) refl k₁ k₂ refl refl refl (split_ready s b kind) (λ h. absurd (false≢true h)) f₁ f₂ apart;
          ends = e ∙ sym (split_net n k b holds.body k₁ k₂ kind f₁.is_key f₂.is_key);
        }

    -- ---- each step is a rule

    module _ (r : Request) (can : Can n r) (ends : m ≡ forward n r) where
      abbrev b : Body
      b = (n.slot r.key).body

      abbrev holds : Holds n r.key live b
      holds = record { kind = can.is_live_lem; body = refl }

      -- a kind with two fresh keys leads to the net that the request of its places leads to; so with the others
      ends_two : (a : Act) → act_of (kind_of s b) ≡ a → uses a ≡ false → Rules.is_newloc a ≡ false → m ≡ forward n (asks_two r.key r.first r.second)
      ends_two a act u v = ends ∙ ap (forward n) (exact_two n r can a act u v)

      ends_tuple : (a : Act) → act_of (kind_of s b) ≡ a → is_there (second_of a) ≡ false → Rules.is_newloc a ≡ false
          → m ≡ forward n (asks_tuple r.key r.used r.first)
      ends_tuple a act u v = ends ∙ ap (forward n) (exact_tuple n r can a act u v)

      ends_new : (a : Act) → act_of (kind_of s b) ≡ a → is_there (second_of a) ≡ false → uses a ≡ false → m ≡ forward n (asks_new r.key r.first r.place)
      ends_new a act u v = ends ∙ ap (forward n) (exact_new n r can a act u v)

      -- the tuple that an in or a read meets
      held : (a : Act) → act_of (kind_of s b) ≡ a → uses a ≡ true → Holds n r.used tuple (n.slot r.used).body
      held a act u = record { kind = can.tuple_live (ap uses act ∙ u); body = refl }

      met_is : (a : Act) → act_of (kind_of s b) ≡ a → uses a ≡ true → (forget (n.slot r.used)).body ≡ (n.slot r.used).body
      met_is a act u = ap (λ (x : Slot R). x.body) (forget_live (n.slot r.used) (inr (held a act u).kind))

      here : (a : Act) → act_of (kind_of s b) ≡ a → uses a ≡ true → (n.slot r.used).body.locality.0 ≡ target s b
      here a act u = ap (λ (x : Body). x.locality.0) (sym (met_is a act u)) ∙ can.rule.here (ap uses act ∙ u)

      fit : (a : Act) → act_of (kind_of s b) ≡ a → uses a ≡ true → fits s b (n.slot r.used).body ≡ true
      fit a act u = ap (fits s b) (sym (met_is a act u)) ∙ can.rule.fits (ap uses act ∙ u)

      by_act : (a : Act) → act_of (kind_of s b) ≡ a → Step s n m
      by_act Rules.nil act = absurd (false≢true (sym (ap acts act) ∙ can.rule.acting))
      by_act Rules.out act =
          let kind = kind_is (kind_of s b) 1 (ap number act) (omega arith) in
          let f' = first_free n r can in
          let f'' = second_free n r can (ap (λ x. is_there (second_of x)) act) in
          Out r.key r.first r.second b holds kind can.rule.ready (can.rule.there (ap aims act)) f' f'' can.rule.places.apart
          (ends_two Rules.out act refl refl ∙ out_net n r.key b refl r.first r.second kind f'.is_key f''.is_key)
      by_act Rules.take act =
          let kind = kind_is (kind_of s b) 2 (ap number act) (omega arith) in
          let f' = first_free n r can in
          let t = (n.slot r.used).body in
          In r.key r.used r.first b t holds kind can.rule.ready (can.rule.there (ap aims act)) (can.rule.places.used (ap uses act))
          (held Rules.take act refl) (here Rules.take act refl) (fit Rules.take act refl) f'
          (ends_tuple Rules.take act refl refl ∙ in_net n r.key b refl r.used r.first t kind f'.is_key (held Rules.take act refl))
      by_act Rules.read act =
          let kind = kind_is (kind_of s b) 3 (ap number act) (omega arith) in
          let f' = first_free n r can in
          let t = (n.slot r.used).body in
          Read r.key r.used r.first b t holds kind can.rule.ready (can.rule.there (ap aims act)) (can.rule.places.used (ap uses act))
          (held Rules.read act refl) (here Rules.read act refl) (fit Rules.read act refl) f'
          (ends_tuple Rules.read act refl refl ∙ read_net_lem n r.key b refl r.used r.first t kind f'.is_key (held Rules.read act refl))
      by_act Rules.newloc act =
          let kind = kind_is (kind_of s b) 4 (ap number act) (omega arith) in
          let f' = first_free n r can in
          New r.key r.first r.place b holds kind (can.rule.places.place (ap Rules.is_newloc act)) (can.fresh_place (ap Rules.is_newloc act)) f'
          (ends_new Rules.newloc act refl refl ∙ new_net n r.key b refl r.first r.place kind f'.is_key)
      by_act Rules.eval act =
          let kind = kind_is (kind_of s b) 5 (ap number act) (omega arith) in
          let f' = first_free n r can in
          let f'' = second_free n r can (ap (λ x. is_there (second_of x)) act) in
          Eval r.key r.first r.second b holds kind can.rule.ready (can.rule.there (ap aims act)) f' f'' can.rule.places.apart
          (ends_two Rules.eval act refl refl ∙ eval_net n r.key b refl r.first r.second kind f'.is_key f''.is_key)
      by_act Rules.split act =
          let kind = kind_is (kind_of s b) 6 (ap number act) (omega arith) in
          let f' = first_free n r can in
          let f'' = second_free n r can (ap (λ x. is_there (second_of x)) act) in
          Split r.key r.first r.second b holds kind f' f'' can.rule.places.apart
          (ends_two Rules.split act refl refl ∙ split_net n r.key b refl r.first r.second kind f'.is_key f''.is_key)
      by_act Rules.roll act = absurd (false≢true (sym (ap acts act) ∙ can.rule.acting))

    pub forward_step : Forward n m → Step s n m
    forward_step f = by_act f.request f.can f.ends (act_of (kind_of s (n.slot f.request.key).body)) refl

    pub step_iff : Step s n m ↔ Forward n m
    step_iff = (step_forward, forward_step)

  -- what the step makes of a request that is allowed
  pub can_step : (n : Net (rules_of s)) (r : Request) → Can n r → Step s n (forward n r)
  can_step n r can = forward_step n (forward n r) (record { request = r; can = can; ends = refl })
