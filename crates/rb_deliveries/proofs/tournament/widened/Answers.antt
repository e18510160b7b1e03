use Rattle.std.proofs.Common.{arith, ◌≡◌, ◌∙◌, ◌+◌, ◌-◌, ◌<◌, ◌++◌, ℕ, zero, sym, ap, suc, drop, take, replicate, None}
use Rattle.std.proofs.Common.{slice_set}
use Rattle.std.proofs.lemmas.List.{get_or-drop, length-replicate, length-drop}
use Rattle.rb_deliveries.specs.Tournament.{places_at}
use Rattle.rb_deliveries.proofs.orders.TreeLaws.{empty_joined, drop_empty, widened_more, tree_widened, twice_even}
use Rattle.rb_deliveries.proofs.tournament.widened.Goals as goal
use Rattle.rb_deliveries.proofs.tournament.widened.Goals.{then-room-eq0, else-room-eq0}

pub loop-place-init : goal.loop-place-init
loop-place-init c = rw c.in_ok-wider.ensures (record {
  long = length-replicate _ None ∙ c.in-Some.ensures.1;
  places = ap (λ n. drop c.if-room-eq0.wide (replicate n None)) c.in-Some.ensures.1 ∙ drop_empty c.if-room-eq0.wide
      ∙ ap (λ n. replicate n None) (let e : c.if-room-eq0.wide ≡ c.if-room-eq0.wide - 0 = omega arith in e);
  inner = empty_joined _ c.if-room-eq0.wide;
})

pub loop-place-preserved : goal.loop-place-preserved
loop-place-preserved c =
    let wide : c.args.room < c.if-room-eq0.wide = elim c.if-room-eq0.branch [
      | then-room-eq0 w ↦ rw w.wide-is (omega (arith, w.if-room-eq0))
      | else-room-eq0 w ↦ rw w.wide-is (omega (arith, w.if-room-eq0))
    ] in
    record {
      long = c.put.ensures.long;
      places =
          widened_more c.loop-place.wider.items c.put.new.nodes.items (drop c.args.room c.args.nodes.now)
          c.if-room-eq0.wide c.loop-place.place None
          (omega (arith, c.loop-place-test.true, length-drop c.args.room c.args.nodes.now, c.requires.long))
          (omega (arith, c.loop-place-test.true, wide)) c.loop-place.invariant.places
          (c.put.ensures.places
          ∙ ap (λ leaf. drop c.if-room-eq0.wide
          (slice_set c.loop-place.wider.items (c.if-room-eq0.wide + c.loop-place.place) leaf))
          (sym (get_or-drop c.args.room c.args.nodes.now c.loop-place.place None)))
          ∙ ap (λ n. take n (drop c.args.room c.args.nodes.now) ++ replicate (c.if-room-eq0.wide - n) None)
          (let e : suc c.loop-place.place ≡ c.loop-place.place + 1 = omega arith in e);
      inner = c.put.ensures.inner;
    }

pub returns : goal.returns
returns c =
    let wide : c.args.room < c.if-room-eq0.wide = elim c.if-room-eq0.branch [
      | then-room-eq0 w ↦ rw w.wide-is (omega (arith, w.if-room-eq0))
      | else-room-eq0 w ↦ rw w.wide-is (omega (arith, w.if-room-eq0))
    ] in
    let even : (depth : ℕ) × (c.if-room-eq0.wide ≡ places_at depth) = elim c.if-room-eq0.branch [
      | then-room-eq0 w ↦ (zero, w.wide-is)
      | else-room-eq0 w ↦ (let e = twice_even c.args.room c.requires.even (omega (arith, w.if-room-eq0)) in
          (e.0, w.wide-is ∙ e.1))
    ] in
    let all : c.loop-place.place ≡ c.args.room = omega (arith, c.loop-place-test.false, c.loop-place.auto) in
    let tree = tree_widened c.args.nodes.now c.loop-place.wider.items c.args.room c.if-room-eq0.wide c.requires wide
    c.loop-place.invariant.long (λ some. even)
    (c.loop-place.invariant.places
    ∙ ap (λ n. take n (drop c.args.room c.args.nodes.now) ++ replicate (c.if-room-eq0.wide - n) None) all)
    c.loop-place.invariant.inner in
    (tree.0, wide, tree.1)
