-- A machine in slices that fit, and the numbers that stand for it. Assumes nothing.
use Rattle.std.proofs.Common.{◌≡◌, ℕ, ◌*◌, Bool, true, false, T, ltb, List, length, None, sym, refl, ap, ◌∙◌, subst, arith}
use Rattle.std.proofs.lemmas.Bool.{le-ltb}
use Rattle.frames.specs.declared.settings.Settings.{Settings}
use Rattle.members.specs.Answers.{ring_of, refused_size, refused_ring}
use Rattle.members.specs.Ring.{State, how_many, all_below}
use Rattle.members.proofs.Answered.{ring_taken}
use Rattle.posts.specs.declared.post.Post.{Post}
use Rattle.ring.specs.declared.line.Line.{Line}
use Rattle.ring.specs.Machine.{Machine, Whole, numbers_of, state_in}
use Rattle.ring.specs.Plays.{Fitting, Seated}
use Rattle.ring.specs.Promise.{ring_of_settings}
use Rattle.ring.specs.Tallies.{anew, begun}
use Rattle.ring.proofs.Healing.{machine_state}
use Rattle.ring.proofs.Places.{state_length}
use Rattle.ring.proofs.TickLaws.{ring_same}

T_true : (b : Bool) → T b → b ≡ true
T_true true t = refl
T_true false t = absurd t

pub fitting : (o : Settings) (ps : List Post) (ls : List Line) (s : State) (n : ℕ) → n ≡ o.posts → length ps ≡ n → length ls ≡ n → length s ≡ 3 * n → Seated ps → Fitting o ps ls s
fitting o ps ls s n e a b c d = record { count_of_posts = a ∙ e; line_count = b ∙ e; count_of_numbers = c ∙ ap (λ x. 3 * x) e; seated = d }

pub fitting_whole : (o : Settings) (ps : List Post) (ls : List Line) (s : State) → Fitting o ps ls s → Whole o.posts (record { posts = ps; lines = ls })
fitting_whole o ps ls s f = record { count_of_posts = f.count_of_posts; line_count = f.line_count; placed = λ i d l. f.seated i d (omega (arith, f.count_of_posts)) }

module _ (o : Settings) (m : Machine) (w : Whole o.posts m) (s : State) (e : s ≡ state_in o m) where
  long : length s ≡ 3 * o.posts
  long = ap length e ∙ state_length o.posts (numbers_of o m)

  -- a question about the whole ring isn't refused
  pub numbers_taken : refused_ring o.k s ≡ None
  numbers_taken =
      let n = long in
      let a : ltb (length s) 3 ≡ false = le-ltb (length s) 3 (omega (arith, o.some)) in
      let b : ltb o.k (length s) ≡ false = le-ltb o.k (length s) (omega (arith, o.enough)) in
      let z : refused_size o.k s ≡ None = rw (a, b) in
      ring_taken o.k s z (T_true (all_below o.k s) (subst (λ t. T (all_below o.k t)) (sym e) (machine_state o m w).1))

  pub begun_anew : (h : ℕ) → h ≡ how_many (ring_of o.k s) s (length s) → begun h ≡ anew (ring_of_settings o) (state_in o m)
  unfolding anew
  begun_anew h q =
      ap begun (q ∙ (ap (λ r. how_many r s r.members) (ring_same o s long) ∙ ap (λ t. how_many (ring_of_settings o) t (3 * o.posts)) e))
