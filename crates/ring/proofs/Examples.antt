-- The worked examples hold: for each row there are tests that are computed, and where they pass its claim is true. Assumes nothing.
use Rattle.std.proofs.Common.{◌≡◌, ℕ, zero, suc, pred, ◌+◌, ◌*◌, ◌<◌, Bool, true, false, cond, not, ◌&&◌, T, eqb, ltb, leb, List, [], ◌∷◌, ◌++◌, length, get_or, refl, ap, ◌∙◌, subst, le_of_suc-le-suc, not-suc-le-zero, arith, eqb→eq, ltb→lt, leb→le}
use Rattle.std.specs.List.{AllByRecursion}
use Rattle.frames.specs.declared.settings.Settings.{Settings}
use Rattle.lines.specs.Checks.{first_fault}
use Rattle.frames.specs.FrameUnit.{frame_bytes, frame_checks}
use Rattle.sums.specs.Sum.{sum_of}
use Rattle.lines.specs.Units.{unit_checks}
use Rattle.members.specs.Answers.{next_by}
use Rattle.members.specs.Ring.{Ring, State, may, next, moved, how_many, Moves, none, then, movers}
use Rattle.posts.specs.declared.post.Post.{Post}
use Rattle.posts.specs.Rule.{norm, number_in, heard_in}
use Rattle.posts.specs.Steps.{deeds_in}
use Rattle.ring.specs.Bound.{twice_bound}
use Rattle.ring.specs.Examples.{holders, holders_below, repeated, seconds_lost, losses, Leads, Example, moving, bounded, counting, delayed, healing, speaking, Shows, table, Examples}
use Rattle.ring.specs.Machine.{Machine, Event, post_of, post_at, Among, step, run, numbers_of, state_in, moves_in}
use Rattle.ring.specs.Numbers.{member_of, state_of, changed}
use Rattle.ring.specs.Promise.{ring_of_settings}
use Rattle.ring.proofs.Refine.{run_whole}

both : (a b : Bool) → T (a && b) → T a × T b
both true b h = (tt, h)
both false b h = absurd h

is_true : (b : Bool) → T b → b ≡ true
is_true true h = refl
is_true false h = absurd h

-- whether all tests pass
pass : List Bool → Bool
pass [] = true
pass (b ∷ bs) = b && pass bs

passing : (bs : List Bool) → T (pass bs) → AllByRecursion T bs
unfolding pass
passing [] h = tt
passing (b ∷ bs) h = let p = both b (pass bs) h in (p.0, passing bs p.1)

-- whether two lists are the same
same : List ℕ → List ℕ → Bool
same [] [] = true
same [] (y ∷ ys) = false
same (x ∷ xs) [] = false
same (x ∷ xs) (y ∷ ys) = eqb x y && same xs ys

same_is : (xs ys : List ℕ) → T (same xs ys) → xs ≡ ys
unfolding same
same_is [] [] h = refl
same_is [] (y ∷ ys) h = absurd h
same_is (x ∷ xs) [] h = absurd h
same_is (x ∷ xs) (y ∷ ys) h =
    let p = both (eqb x y) (same xs ys) h in
    let a : x ≡ y = eqb→eq x y p.0 in
    let b : xs ≡ ys = same_is xs ys p.1 in
    cc

-- a move before a run is a run
first : (r : Ring) (s u : State) {t : State} {n : ℕ} (i : ℕ) → i < r.members → T (may r s i) → moved r s i ≡ u → (m : Moves r u n t) →
    (q : Moves r s (suc n) t) × (movers q ≡ i ∷ movers m)
unfolding movers
first r s u i l c e none = subst (λ v. (q : Moves r s 1 v) × (movers q ≡ i ∷ [])) e (then i none l c, refl)
first r s u i l c e (then j m k d) = let p = first r s u i l c e m in (then j p.0 k d, ap (λ w. w ++ (j ∷ [])) p.1)

-- whether members may move in this order, and the numbers after it
can_move : Ring → State → List ℕ → Bool
can_move r s [] = true
can_move r s (i ∷ is) = pass (ltb i r.members ∷ may r s i ∷ can_move r (moved r s i) is ∷ [])

after : Ring → State → List ℕ → State
after r s [] = s
after r s (i ∷ is) = after r (moved r s i) is

moves_after : (r : Ring) (s : State) (is : List ℕ) → T (can_move r s is) → (q : Moves r s (length is) (after r s is)) × (movers q ≡ is)
unfolding can_move after movers
moves_after r s [] c = (none, refl)
moves_after r s (i ∷ is) c =
    let h = passing (ltb i r.members ∷ may r s i ∷ can_move r (moved r s i) is ∷ []) c in
    let m = moves_after r (moved r s i) is h.1.1.0 in
    let p = first r s (moved r s i) i (ltb→lt i r.members h.0) h.1.0 refl m.0 in
    (p.0, p.1 ∙ ap (λ w. i ∷ w) m.1)

-- whether events are about posts that are there
amongst : ℕ → List Event → Bool
amongst n [] = true
amongst n (e ∷ es) = ltb (post_of e) n && amongst n es

among : (n : ℕ) (es : List Event) → T (amongst n es) → Among n es
unfolding amongst Among
among n [] h = tt
among n (e ∷ es) h = let p = both (ltb (post_of e) n) (amongst n es) h in (ltb→lt (post_of e) n p.0, among n es p.1)

-- whether posts stand in the places from j on
placed_from : ℕ → List Post → Bool
placed_from j [] = true
placed_from j (p ∷ ps) = eqb p.place j && placed_from (suc j) ps

placed_from_lem : (j : ℕ) (ps : List Post) → T (placed_from j ps) → (i : ℕ) (d : Post) → i < length ps → (get_or ps i d).place ≡ j + i
unfolding placed_from
placed_from_lem j [] h i d l = absurd (not-suc-le-zero l)
placed_from_lem j (p ∷ ps) h zero d l = let e : p.place ≡ j = eqb→eq p.place j (both (eqb p.place j) (placed_from (suc j) ps) h).0 in omega arith
placed_from_lem j (p ∷ ps) h (suc i) d l =
    let e : (get_or ps i d).place ≡ suc j + i = placed_from_lem (suc j) ps (both (eqb p.place j) (placed_from (suc j) ps) h).1 i d (le_of_suc-le-suc l) in
    omega arith

-- the tests of a machine and of events in it
leads_tests : Settings → Machine → List Event → ℕ → State → List Bool
leads_tests o m es moves to =
    eqb (length m.posts) o.posts ∷ eqb (length m.lines) o.posts ∷ placed_from 0 m.posts ∷ amongst o.posts es ∷
    eqb (moves_in o es m) moves ∷ same (state_in o (run o es m)) to ∷ []

leads : (o : Settings) (m : Machine) (es : List Event) (moves : ℕ) (to : State) → T (pass (leads_tests o m es moves to)) → Leads o m es moves to
unfolding leads_tests
leads o m es moves to c =
    let h = passing (leads_tests o m es moves to) c in
    let posts : length m.posts ≡ o.posts = eqb→eq (length m.posts) o.posts h.0 in
    record {
      whole =
          record {
            count_of_posts = posts;
            line_count = eqb→eq (length m.lines) o.posts h.1.0;
            placed = λ i d l. let e : (get_or m.posts i d).place ≡ 0 + i = placed_from_lem 0 m.posts h.1.1.0 i d (omega arith) in omega arith;
          };
      among = among o.posts es h.1.1.1.0;
      counted = eqb→eq (moves_in o es m) moves h.1.1.1.1.0;
      reached = same_is (state_in o (run o es m)) to h.1.1.1.1.1.0;
    }

-- the tests of a row
tests : Example → List Bool
tests (moving r from who to those) = can_move r from who ∷ same (after r from who) to ∷ same (holders r to) those ∷ []
tests (bounded r most) = eqb (twice_bound r) (2 * most) ∷ []
tests (counting k number counted) = eqb (norm k number) counted ∷ []
tests (delayed o m beat beats later lost moves to) =
    let es = seconds_lost o false (repeated later beat) m in
    let fewer = seconds_lost o false (repeated (pred later) beat) m in
    ltb beats later ∷ pass (leads_tests o m (repeated beats beat) moves to) ∷ pass (leads_tests o m es moves to) ∷ eqb (losses es) lost ∷
    ltb (moves_in o fewer m) moves ∷ []
tests (healing o m es from several moves to alone) =
    let r = ring_of_settings o in
    let s = state_in o (run o es m) in
    same (state_in o m) from ∷ same (holders r (state_in o m)) several ∷ not (eqb (how_many r (state_in o m) r.members) 1) ∷
    pass (leads_tests o m es moves to) ∷ leb (twice_bound r) (2 * moves_in o es m) ∷ eqb (how_many r s r.members) 1 ∷ same (holders r s) (alone ∷ []) ∷ []
tests (speaking o m es moves to speaker) =
    let r = ring_of_settings o in
    let s = state_in o (run o es m) in
    pass (leads_tests o m es moves to) ∷ eqb (how_many r s r.members) 1 ∷ ltb speaker o.posts ∷
    (deeds_in o (post_at (run o es m) speaker)).speaks ∷ same (holders r s) (3 * speaker ∷ []) ∷ []

shown : (x : Example) → AllByRecursion T (tests x) → Shows x
unfolding tests Shows
shown (moving r from who to those) h =
    let m = subst (λ v. (q : Moves r from (length who) v) × (movers q ≡ who)) (same_is (after r from who) to h.1.0) (moves_after r from who h.0) in
    (m.0, m.1, same_is (holders r to) those h.1.1.0)
shown (bounded r most) h = eqb→eq (twice_bound r) (2 * most) h.0
shown (counting k number counted) h =
    λ m e.
    let is : number_in k m ≡ counted = ap (norm k) e ∙ eqb→eq (norm k number) counted h.0 in
    (is, λ p b f. ap (λ v. cond v (next_by k p (heard_in k m) (number_in k m)) (number_in k m)) f ∙ is)
shown (delayed o m beat beats later lost moves to) h =
    let es = seconds_lost o false (repeated later beat) m in
    record {
      more = ltb→lt beats later h.0;
      without = leads o m (repeated beats beat) moves to h.1.0;
      with_losses = leads o m es moves to h.1.1.0;
      lost_are = eqb→eq (losses es) lost h.1.1.1.0;
      not_before = ltb→lt (moves_in o (seconds_lost o false (repeated (pred later) beat) m) m) moves h.1.1.1.1.0;
    }
shown (healing o m es from several moves to alone) h =
    let r = ring_of_settings o in
    let s = state_in o (run o es m) in
    record {
      begins = same_is (state_in o m) from h.0;
      several_may = same_is (holders r (state_in o m)) several h.1.0;
      unhealed = λ e. subst (λ n. T (not (eqb n 1))) e h.1.1.0;
      leads = leads o m es moves to h.1.1.1.0;
      as_many = leb→le (twice_bound r) (2 * moves_in o es m) h.1.1.1.1.0;
      healed = eqb→eq (how_many r s r.members) 1 h.1.1.1.1.1.0;
      one_may = same_is (holders r s) (alone ∷ []) h.1.1.1.1.1.1.0;
    }
shown (speaking o m es moves to speaker) h =
    let r = ring_of_settings o in
    let s = state_in o (run o es m) in
    let l = leads o m es moves to h.0 in
    record {
      leads = l;
      whole = run_whole o es m l.whole l.among;
      healed = eqb→eq (how_many r s r.members) 1 h.1.0;
      there = ltb→lt speaker o.posts h.1.1.0;
      speaks = is_true (deeds_in o (post_at (run o es m) speaker)).speaks h.1.1.1.0;
      token = same_is (holders r s) (3 * speaker ∷ []) h.1.1.1.1.0;
    }

-- whether the tests of all rows pass
all_pass : List Example → Bool
all_pass [] = true
all_pass (x ∷ xs) = pass (tests x) && all_pass xs

all_shown : (xs : List Example) → T (all_pass xs) → AllByRecursion Shows xs
unfolding all_pass
all_shown [] h = tt
all_shown (x ∷ xs) h = let p = both (pass (tests x)) (all_pass xs) h in (shown x (passing (tests x) p.0), all_shown xs p.1)

pub examples : Examples
unfolding table all_pass pass tests leads_tests same can_move after amongst placed_from may next how_many holders_below repeated seconds_lost losses step run
    numbers_of moves_in member_of state_of changed frame_bytes frame_checks first_fault unit_checks sum_of
examples = all_shown table tt
