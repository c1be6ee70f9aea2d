-- What disturbances leave of the numbers and the tally. Assumes nothing.
use Rattle.std.proofs.Common.{◌≡◌, ℕ, ◌+◌, ◌*◌, ◌<◌, List, length, set, sym, refl, ap, ◌∙◌, length-set}
use Rattle.frames.specs.declared.settings.Settings.{Settings}
use Rattle.members.specs.Answers.{ring_of}
use Rattle.members.specs.Ring.{Ring, State, how_many}
use Rattle.posts.specs.declared.memory.Memory.{Memory}
use Rattle.posts.specs.declared.post.Post.{Post}
use Rattle.posts.specs.Rule.{norm, number_in, heard_in}
use Rattle.posts.specs.Steps.{number_carried}
use Rattle.ring.specs.declared.line.Line.{Line}
use Rattle.ring.specs.Disturbances.{memory_becomes, frame_becomes}
use Rattle.ring.specs.Machine.{Machine, Whole, numbers_of, state_in}
use Rattle.ring.specs.Numbers.{end_before, state_of}
use Rattle.ring.specs.declared.tally.Tally.{Tally}
use Rattle.ring.specs.Tallies.{Counted, anew}
use Rattle.ring.proofs.Machines.{set_map, same_numbers, machine_fit}
use Rattle.ring.proofs.Places.{own_set, sent_set, heard_set}

-- what disturbances leave of the numbers of a ring of n posts: a memory has the number of its post and of the end of the line to it, a frame its own
abbrev pub memory_numbers : ℕ → ℕ → ℕ → Memory → State → State
memory_numbers n k i x s = set (set s (3 * i) (number_in k x)) (end_before n i) (heard_in k x)

abbrev pub frame_numbers : ℕ → ℕ → List ℕ → State → State
frame_numbers k i bytes s = set s (3 * i + 1) (norm k (number_carried bytes))

pub anew_ap : {r q : Ring} {s t : State} → r ≡ q → s ≡ t → anew r s ≡ anew q t
anew_ap {r} {q} {s} {t} a b = cc

-- numbers after a disturbance can be noted
pub anew_kept : (s : State) (j v : ℕ) (y : Tally) → 2 < length s → ((k : ℕ) → y ≡ anew (ring_of k s) (set s j v)) → Counted (set s j v) y.holders
unfolding anew
anew_kept s j v y g q =
    let e = length-set s j v in
    record { big = rw e g; counted = λ k. ap (λ w. w.holders) (q k) ∙ ap (λ n. how_many (record { members = n; k = k }) (set s j v) n) (sym e) }

module _ (o : Settings) (m : Machine) (w : Whole o.posts m) (i : ℕ) (l : i < o.posts) where
  -- the numbers of a disturbed machine
  pub memory_state : (x : Memory) → state_in o (memory_becomes i x m) ≡ memory_numbers o.posts o.k i x (state_in o m)
  unfolding numbers_of
  memory_state x =
      let f = machine_fit o m w in
      let y = numbers_of o m in
      let a = number_in o.k x in
      let b = heard_in o.k x in
      ap (state_of o.posts) (same_numbers
      (set_map (λ (p : Post). number_in o.k p.memory) m.posts i _ a refl)
      refl
      (set_map (λ (p : Post). heard_in o.k p.memory) m.posts i _ b refl)) ∙
      (heard_set o.posts (record { own = set y.own i a; sent = y.sent; heard = y.heard }) i b l f.hearings ∙
      ap (λ t. set t (end_before o.posts i) b) (own_set o.posts y i a l f.owns))

  pub frame_state : (bytes : List ℕ) → state_in o (frame_becomes i bytes m) ≡ frame_numbers o.k i bytes (state_in o m)
  unfolding numbers_of
  frame_state bytes =
      ap (state_of o.posts) (same_numbers refl (set_map (λ (b : Line). norm o.k (number_carried b.frame)) m.lines i _ _ refl) refl) ∙
      sent_set o.posts (numbers_of o m) i (norm o.k (number_carried bytes)) l (machine_fit o m w).sents
