use Rattle.std.proofs.Common.{◌≡◌, ℕ, ◌*◌, ◌/◌, ◌<◌, List, [], length, get_or, take, drop, ap, ◌∙◌, arith}
use Rattle.std.specs.Simd.{first_chunks}
use Rattle.laws.proofs.Chunks.{chunk_at}
use Rattle.machine.specs.Bytes.{good_held, held_images}
use Rattle.rewind.specs.Run.{answered, reply_few, last_held, request_at, one_more, run_of, run_first, run_next}
use Rattle.rewind.proofs.answer_chunk.Goals as goal

-- the chunk that the loop is at is the request there
request_here : (b : List ℕ) (parts : List (List ℕ)) (k : ℕ) → parts ≡ first_chunks 6 (length b / 6) b → k < length b / 6 → get_or parts k [] ≡ request_at b k
request_here b parts k e l =
    let m : 6 * k ≡ k * 6 = omega arith in
    ap (λ (ps : List (List ℕ)). get_or ps k []) e ∙ chunk_at 6 (length b / 6) k b l ∙ ap (λ (n : ℕ). take 6 (drop n b)) m

pub loop-request-init : goal.loop-request-init
loop-request-init g c =
    let room : length c.clear.new.self.items ≡ 0 = ap length c.clear.ensures in
    record {
      room = omega (arith, room);
      held = good_held c.args.script.now c.args.net.now c.requires.good_images c.fits-script c.fits-net;
      run = ap (λ xs. run_of xs c.args.net.now) c.clear.ensures ∙ run_first c.args.script.now c.args.net.now c.args.requests.now;
    }

pub call_on-requires : goal.call_on-requires
call_on-requires g c = held_images c.args.script.now c.loop-request.net c.loop-request.invariant.held

pub put_line-requires : goal.put_line-requires
put_line-requires g c =
    let few = reply_few c.args.script.now c.loop-request.net _ c.loop-request.invariant.held _ c.call_on.ensures.0 in
    omega (arith, few, c.requires.room, c.loop-request.invariant.room, c.loop-request-test.true, c.as_chunks.ensures.front_len)

pub loop-request-preserved : goal.loop-request-preserved
loop-request-preserved g c =
    let ran = one_more c.args.script.now c.loop-request.net _ _ _ _ _ c.call_on.ensures.0 c.call_on.ensures.1 c.put_line.ensures in
    let l : c.loop-request.request-index < length c.args.requests.now / 6 = omega (arith, c.loop-request-test.true, c.as_chunks.ensures.front_len) in
    let here = request_here c.args.requests.now _ c.loop-request.request-index c.as_chunks.ensures.front l in
    record {
      room = omega (arith, c.loop-request.invariant.room, ran.1);
      held = last_held c.args.script.now c.loop-request.net _ c.loop-request.invariant.held _ c.call_on.ensures.1;
      run = run_next c.args.script.now c.args.net.now c.args.requests.now c.loop-request.request-index _ _ _ here c.loop-request.invariant.run ran.0;
    }

pub returns : goal.returns
returns g c =
    let e : c.loop-request.request-index ≡ length c.args.requests.now / 6 =
    omega (arith, c.loop-request.auto.request-index-end, c.loop-request-test.false, c.as_chunks.ensures.front_len) in
    record {
      run = c.loop-request.invariant.run ∙ ap (answered c.args.script.now c.args.net.now c.args.requests.now) e;
      good_images = held_images c.args.script.now c.loop-request.net c.loop-request.invariant.held;
    }
