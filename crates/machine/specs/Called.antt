-- The code of a call against its definition: what each part of it knows.
-- In order: which verdict accepts (`accepts`); what a contract says of a reply (`Replies`); a request that is read is in range (`read_in_range`), one that is
-- not is refused (`request_bad`), one that is read is served (`request_good`); what is read is good only where it has its form (`script_formed_lem`,
-- `net_formed_lem`), and is then what the bytes hold (`script_in_lem`, `net_in_lem`), in range (`script_range`, `net_range`); the verdict is acceptance
-- (`accepts_tested`), so the answer is the definition's (`image_no_script`, `image_no_net`, `image_by`); images whose answer is done are good
-- (`images_good`, `good_images`); a call on good images (`good_replies`), and any call (`call_refused`, `answer_good`).
-- Assumes nothing.
use Rattle.std.specs.Prelude.{ℕ, ◌≡◌, Bool, ◌&&◌, List, eqb, length, Option, Some, None, is_some, unwrap_or, Result, Ok, Err, is_ok}
use Rattle.std.proofs.Math.Path.{refl, sym, ap}
use Rattle.std.proofs.Common.{◌∙◌, subst}
use Rattle.std.proofs.Math.Bool.{true, false}
use Rattle.std.proofs.lemmas.Bool.{false≢true}
use Rattle.laws.specs.Choice.{pick, cases, fails, agree, and_left, and_right}
use Rattle.laws.specs.Checks.{all_of, all_at}
use Rattle.laws.specs.Lists.{get_d_tab}
use Rattle.laws.specs.Words.{word_at}
use Rattle.names.specs.Names.{key_count, node_count}
use Rattle.images.specs.Head.{part_at, head_formed, rest_zero}
use Rattle.images.specs.Net.{slot0, slot_in_range, net_in_range, empty_net}
use Rattle.images.specs.Script.{action0, script_in_range, action_in_range}
use Rattle.images.specs.Read.{action_of, action_formed, script_of, script_formed, nodes_formed, slot_of, slot_formed, net_of, net_formed, slots_formed, nil_script, read_script, read_net}
use Rattle.images.specs.Shape.{ShapedNet}
use Rattle.images.specs.Sizes.{script_sized, net_sized}
use Rattle.images.specs.declared.Script.{Script}
use Rattle.images.specs.declared.Net.{Net}
use Rattle.rules.specs.Same.{is_accepted, accepted_is_tested}
use Rattle.rules.specs.View.{view, beyond}
use Rattle.accept.specs.Verdict.{verdict_of}
use Rattle.accept.proofs.Laws.{accepted_verdict}
use Rattle.accept.specs.declared.Fault.{Fault}
use Rattle.requests.specs.Answers.{in_range}
use Rattle.requests.specs.Requests.{asked, asked_by, is_done, refusal, request_of, read_request}
use Rattle.requests.specs.declared.Request.{Request}
use Rattle.requests.specs.declared.Answer.{Answer}
use Rattle.requests.specs.declared.Told.{Told}
use Rattle.step.specs.Lent.{Good}
use Rattle.step.specs.Stepped.{Serves}
use Rattle.machine.specs.Calls.{script_in, net_in, good_script, good_net, image_answer, GoodImages, served, Reply, reply_to, reply}

abbrev pub accepts : Result Unit Fault → Bool
accepts v = is_ok v

-- what a call's contract says of its result and of the lent bytes after it
abbrev pub Replies : Told → List ℕ → Reply → Type 0
Replies t last r = (t ≡ r.told) × (last ≡ r.net)

-- ---- the request

pub read_in_range : (q : List ℕ) (r : Request) → Some r ≡ read_request q → in_range (asked r) ≡ true
unfolding read_request
read_in_range q r e =
    cases (eqb (length q) 6)
    (λ h.
    cases (in_range (asked_by q))
    (λ g.
    let there : Some r ≡ Some (request_of q) = e ∙ rw (h, g) refl in
    let same : r ≡ request_of q = cc in
    ap (λ (z : Request). in_range (asked z)) same ∙ g)
    (λ g. let bad : Some r ≡ None = e ∙ rw (h, g) refl in cc))
    (λ h. let bad : Some r ≡ None = e ∙ rw h refl in cc)

module _ (s : Script) (n : Net) (net q : List ℕ) where
  pub request_bad : None ≡ read_request q → (t : Told) → t ≡ refusal Answer.BadRequest → Replies t net (reply_to s n net (read_request q))
  request_bad e t is = subst (λ (a : Option Request). Replies t net (reply_to s n net a)) e (is, refl)

  pub request_good : (r : Request) → Some r ≡ read_request q → (t : Told) (last : List ℕ)
      → Serves t last (served s n r) net → Replies t last (reply_to s n net (read_request q))
  request_good r e t last both = subst (λ (a : Option Request). Replies t last (reply_to s n net a)) e both

-- ---- the images

formed_range : (b : List ℕ) → script_formed b ≡ true → script_in_range (script_of b) ≡ true
unfolding script_formed script_of nodes_formed action_formed script_in_range
formed_range b t =
    let nodes = and_right (eqb (word_at b 8) 0) _ (and_right (head_formed 83 b) _ (and_right (eqb (length b) 2064) _ t)) in
    all_of node_count _
    (λ i l.
    ap action_in_range (get_d_tab node_count (λ j. action_of (part_at 32 b j)) i action0 l) ∙
    and_right (rest_zero 32 (part_at 32 b i)) _ (all_at node_count _ nodes i l))

formed_net_range : (b : List ℕ) → net_formed b ≡ true → net_in_range (net_of b) ≡ true
unfolding net_formed net_of slots_formed slot_formed net_in_range
formed_net_range b t =
    let slots = and_right (head_formed 78 b) _ (and_right (eqb (length b) 3600) _ t) in
    all_of key_count _
    (λ i l.
    ap slot_in_range (get_d_tab key_count (λ j. slot_of (part_at 56 b j)) i slot0 l) ∙
    and_right (rest_zero 56 (part_at 56 b i)) _ (all_at key_count _ slots i l))

-- what is read is good exactly where it has its form, and is then what the bytes hold
module _ (b : List ℕ) where
  script_is : good_script b ≡ script_formed b
  unfolding read_script
  script_is = cases (script_formed b) (λ t. rw t refl) (λ t. rw t refl)

  net_is : is_some (read_net b) ≡ net_formed b
  unfolding read_net
  net_is = cases (net_formed b) (λ t. rw t refl) (λ t. rw t refl)

  pub script_formed_lem : good_script b ≡ true → script_formed b ≡ true
  script_formed_lem h = sym script_is ∙ h

  pub net_formed_lem : (s : Script) → good_net s b ≡ true → net_formed b ≡ true
  unfolding good_net
  net_formed_lem s h = sym net_is ∙ and_left (is_some (read_net b)) _ h

  script_held : script_formed b ≡ true → read_script b ≡ Some (script_of b)
  unfolding read_script
  script_held t = rw t refl

  net_held : net_formed b ≡ true → read_net b ≡ Some (net_of b)
  unfolding read_net
  net_held t = rw t refl

  pub script_in_lem : script_formed b ≡ true → script_in b ≡ script_of b
  script_in_lem t = ap (λ (z : Option Script). unwrap_or z nil_script) (script_held t)

  pub net_in_lem : net_formed b ≡ true → net_in b ≡ net_of b
  net_in_lem t = ap (λ (z : Option Net). unwrap_or z empty_net) (net_held t)

  script_range : script_formed b ≡ true → script_in_range (script_in b) ≡ true
  script_range t = ap script_in_range (script_in_lem t) ∙ formed_range b t

  pub net_range : net_formed b ≡ true → net_in_range (net_in b) ≡ true
  net_range t = ap net_in_range (net_in_lem t) ∙ formed_net_range b t

-- ---- acceptance

accepts_is : (a : Result Unit Fault) → accepts a ≡ true → a ≡ Ok tt
accepts_is (Ok tt) h = refl
accepts_is (Err f) h = absurd (false≢true h)

-- the verdict on a net in range accepts exactly where the net is accepted
pub accepts_tested : (s : Script) (n : Net) → ShapedNet n → net_in_range n ≡ true → accepts (verdict_of s n) ≡ is_accepted s (view s n)
accepts_tested s n v range =
    let tests = accepted_is_tested s (view s n) (beyond s n) in
    let says = accepted_verdict s n v range in
    agree (accepts (verdict_of s n)) (is_accepted s (view s n)) (λ h. tests.1 (says.0 (accepts_is (verdict_of s n) h))) (λ h. ap accepts (says.1 (tests.0 h)))

-- the code's answer is the definition's
module _ (S N : List ℕ) where
  pub image_no_script : script_formed S ≡ false → Answer.BadScript ≡ image_answer S N
  unfolding image_answer
  image_no_script h =
      let g : good_script S ≡ false = script_is S ∙ h in
      rw g refl

  module _ (f : script_formed S ≡ true) where
    by_net : (b : Bool) → good_net (script_in S) N ≡ b → pick b Answer.Done Answer.BadNet ≡ image_answer S N
    unfolding image_answer
    by_net b e =
        let g : good_script S ≡ true = script_is S ∙ f in
        rw (g, e) refl

    pub image_no_net : net_formed N ≡ false → Answer.BadNet ≡ image_answer S N
    unfolding good_net read_net
    image_no_net h = by_net false (rw h refl)

    -- by the verdict, where both have their form
    pub image_by : net_formed N ≡ true → ShapedNet (net_of N) → (v : Result Unit Fault) → v ≡ verdict_of (script_of S) (net_of N) → (b : Bool) → b ≡ accepts v
        → pick b Answer.Done Answer.BadNet ≡ image_answer S N
    unfolding good_net
    image_by g shaped v is-v b is_b =
        let read-script = script_held S f in
        let read_net_lem = net_held N g in
        by_net b
        ((λ i. is_some (read_net_lem i) && is_accepted (unwrap_or (read-script i) nil_script) (view (unwrap_or (read-script i) nil_script) (unwrap_or (read_net_lem i) empty_net))) ∙
        sym (is_b ∙ ap accepts is-v ∙ accepts_tested (script_of S) (net_of N) shaped (formed_net_range N g)))

-- bytes of another length have no form
pub script_long : (b : List ℕ) → (length b ≡ 2064 → ⊥) → script_formed b ≡ false
script_long b h = fails (script_formed b) (λ t. absurd (h (script_sized b t)))

pub net_long : (b : List ℕ) → (length b ≡ 3600 → ⊥) → net_formed b ≡ false
net_long b h = fails (net_formed b) (λ t. absurd (h (net_sized b t)))

-- what a test says of bytes, it says of the same bytes
pub says : (test : List ℕ → Bool) {b c : List ℕ} → b ≡ c → {r y : Bool} → r ≡ test b → r ≡ y → test c ≡ y
says test e is h = ap test (sym e) ∙ sym is ∙ h

pub verdict_same : {S N s n : List ℕ} → s ≡ S → n ≡ N → {v : Result Unit Fault} → v ≡ verdict_of (script_of s) (net_of n) → v ≡ verdict_of (script_of S) (net_of N)
verdict_same e d is = is ∙ (λ i. verdict_of (script_of (e i)) (net_of (d i)))

-- ---- images that are good

-- an image's answer is done exactly where both are good
pub images_good : (script net : List ℕ) → GoodImages script net → (good_script script ≡ true) × (good_net (script_in script) net ≡ true)
unfolding image_answer
images_good script net h =
    cases (good_script script)
    (λ p. cases (good_net (script_in script) net) (λ q. (p, q)) (λ q. absurd (false≢true (rw (p, q) at h))))
    (λ p. absurd (false≢true (rw p at h)))

pub good_images : (script net : List ℕ) → GoodImages script net → Good (script_in script) (net_in net)
unfolding good_net
good_images script net h =
    let (p, q) = images_good script net h in
    record {
      script = script_range script (script_formed_lem script p);
      net = net_range net (net_formed_lem net (script_in script) q);
      accepted =
          (accepted_is_tested (script_in script) (view (script_in script) (net_in net)) (beyond (script_in script) (net_in net))).0
          (and_right (is_some (read_net net)) _ q);
    }

-- ---- the call

-- where the images are good, a reply is the request's
pub good_replies : (script net q : List ℕ) → GoodImages script net → (o : Told) (last : List ℕ)
    → Replies o last (reply_to (script_in script) (net_in net) net (read_request q)) → Replies o last (reply script net q)
unfolding reply
good_replies script net q h o last e = rw h e

module _ (script net : List ℕ) (a : Answer) (is : a ≡ image_answer script net) where
  pub call_refused : (q : List ℕ) → is_done a ≡ false → (o : Told) → o ≡ refusal a → Replies o net (reply script net q)
  unfolding reply
  call_refused q h o e = rw (sym (ap is_done is) ∙ h) (e ∙ ap refusal is, refl)

  pub answer_good : is_done a ≡ true → GoodImages script net
  answer_good h = sym (ap is_done is) ∙ h
