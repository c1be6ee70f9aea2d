-- What each event does to the numbers of a machine. Assumes nothing.
use Rattle.std.proofs.Common.{◌≡◌, ℕ, zero, suc, ◌<◌, Bool, true, false, cond, ◌⊎◌, List, map, length, get_or, set, Some, None, Option, sym, refl, ap, ◌∙◌, subst, inl, inr, arith}
use Rattle.std.proofs.lemmas.List.{map-set, get_or-map, set-get_or, length-map, get_or-set_same}
use Rattle.std.proofs.lemmas.Bool.{cond_both}
use Rattle.lines.specs.declared.fault.Fault.{Fault}
use Rattle.frames.specs.declared.settings.Settings.{Settings}
use Rattle.lines.specs.Checks.{first_fault}
use Rattle.frames.specs.FrameUnit.{frame_bytes, frame_checks}
use Rattle.members.specs.Answers.{next_by}
use Rattle.members.proofs.Steps.{up_below}
use Rattle.posts.specs.declared.deeds.Deeds.{Deeds}
use Rattle.posts.specs.declared.memory.Memory.{Memory}
use Rattle.posts.specs.declared.post.Post.{Post}
use Rattle.posts.specs.Rule.{norm, number_in, heard_in, tick_doing}
use Rattle.posts.specs.Steps.{number_carried, hear_step, hear_by}
use Rattle.posts.proofs.Norms.{norm_below, norm_is}
use Rattle.ring.specs.declared.line.Line.{Line}
use Rattle.ring.specs.Machine.{Machine, Whole, nobody, unused, post_at, line_at, sent_on, tick_doing_of, hear_of, lose_of, button_of, numbers_of}
use Rattle.ring.specs.Numbers.{Numbers, Fit, preceding, hears, acts}
use Rattle.ring.proofs.Places.{preceding_below}

-- the number in a frame is the one that was written
pub carried : (p x : ℕ) → number_carried (frame_bytes p x) ≡ x
unfolding frame_bytes
carried p x = omega arith

-- one entry of a mapped list
pub set_map : {X : Type 0} (f : X → ℕ) (xs : List X) (i : ℕ) (x : X) (v : ℕ) → f x ≡ v → map f (set xs i x) ≡ set (map f xs) i v
set_map f xs i x v e = map-set f xs i x ∙ ap (set (map f xs) i) e

keep_map : {X : Type 0} (f : X → ℕ) (xs : List X) (i : ℕ) (x d : X) → i < length xs → f x ≡ f (get_or xs i d) → map f (set xs i x) ≡ map f xs
keep_map f xs i x d l e =
    set_map f xs i x (get_or (map f xs) i 0) (e ∙ sym (get_or-map f xs i d 0 l)) ∙ set-get_or (map f xs) i 0

-- a post's numbers after a tick in which it does what is chosen

pub doing_heard : (k p : ℕ) (d : Deeds) (m : Memory) → 0 < k → heard_in k (tick_doing k p d m) ≡ heard_in k m
doing_heard k p d m l = norm_is k (heard_in k m) (norm_below k m.heard l)

taken_below : (k p h x : ℕ) → h < k → x < k → next_by k p h x < k
taken_below k zero h x l e = up_below k x (omega arith)
taken_below k (suc p) h x l e = l

pub doing_below : (k p : ℕ) (d : Deeds) (m : Memory) → 0 < k → (tick_doing k p d m).number < k
doing_below k p d m l =
    cond_both d.moves _ _ (λ z. z < k) (λ _. taken_below k p (heard_in k m) (number_in k m) (norm_below k m.heard l) (norm_below k m.number l)) (λ _. norm_below k m.number l)

pub doing_number : (k p : ℕ) (d : Deeds) (m : Memory) → 0 < k → number_in k (tick_doing k p d m) ≡ cond d.moves (next_by k p (heard_in k m) (number_in k m)) (number_in k m)
doing_number k p d m l = norm_is k (tick_doing k p d m).number (doing_below k p d m l)

-- a machine's numbers by its posts and lines
pub numbers_own : (o : Settings) (n : ℕ) (m : Machine) → Whole n m → (i : ℕ) → i < n → get_or (numbers_of o m).own i 0 ≡ number_in o.k (post_at m i).memory
unfolding numbers_of
numbers_own o n m w i l = get_or-map (λ (p : Post). number_in o.k p.memory) m.posts i nobody 0 (omega (arith, w.count_of_posts))

pub numbers_heard : (o : Settings) (n : ℕ) (m : Machine) → Whole n m → (i : ℕ) → i < n → get_or (numbers_of o m).heard i 0 ≡ heard_in o.k (post_at m i).memory
unfolding numbers_of
numbers_heard o n m w i l = get_or-map (λ (p : Post). heard_in o.k p.memory) m.posts i nobody 0 (omega (arith, w.count_of_posts))

pub numbers_sent : (o : Settings) (n : ℕ) (m : Machine) → Whole n m → (i : ℕ) → i < n → get_or (numbers_of o m).sent i 0 ≡ norm o.k (number_carried (line_at m i).frame)
unfolding numbers_of
numbers_sent o n m w i l = get_or-map (λ (b : Line). norm o.k (number_carried b.frame)) m.lines i unused 0 (omega (arith, w.line_count))

-- numbers with equal parts
pub same_numbers : {a b p q c d : List ℕ} → a ≡ b → p ≡ q → c ≡ d → ◌≡◌ {A = Numbers} (record { own = a; sent = p; heard = c }) (record { own = b; sent = q; heard = d })
same_numbers {a} {b} {p} {q} {c} {d} e f g =
    ap (λ z. record { own = z; sent = p; heard = c }) e ∙ (ap (λ z. record { own = b; sent = z; heard = c }) f ∙ ap (λ z. record { own = b; sent = q; heard = z }) g)

pub positive : (o : Settings) → 0 < o.k
positive o = omega (arith, o.some, o.enough)

-- what a post does, by the number that it then has
pub acts_parts : (k i : ℕ) (mv sd : Bool) (x : Numbers) (v : ℕ) → i < length x.own → v ≡ cond mv (next_by k i (get_or x.heard i 0) (get_or x.own i 0)) (get_or x.own i 0) →
    acts k i mv sd x ≡ record { own = set x.own i v; sent = cond sd (set x.sent i v) x.sent; heard = x.heard }
acts_parts k i true true x v l e =
    same_numbers (ap (set x.own i) (sym e)) (ap (set x.sent i) (get_or-set_same x.own i _ 0 l ∙ sym e)) refl
acts_parts k i true false x v l e = same_numbers (ap (set x.own i) (sym e)) refl refl
acts_parts k i false true x v l e = same_numbers (sym (ap (set x.own i) e ∙ set-get_or x.own i 0)) (ap (set x.sent i) (sym e)) refl
acts_parts k i false false x v l e = same_numbers (sym (ap (set x.own i) e ∙ set-get_or x.own i 0)) refl refl

-- the line of a post that sends or doesn't
line_after : (o : Settings) (sd : Bool) (bytes : List ℕ) (ls : List Line) (i v : ℕ) → i < length ls → norm o.k (number_carried bytes) ≡ v →
    map (λ (b : Line). norm o.k (number_carried b.frame)) (set ls i (sent_on (cond sd (Some bytes) None) (get_or ls i unused))) ≡
    cond sd (set (map (λ (b : Line). norm o.k (number_carried b.frame)) ls) i v) (map (λ (b : Line). norm o.k (number_carried b.frame)) ls)
line_after o true bytes ls i v l e = set_map (λ (b : Line). norm o.k (number_carried b.frame)) ls i (record { frame = bytes; lost = false }) v e
line_after o false bytes ls i v l e = keep_map (λ (b : Line). norm o.k (number_carried b.frame)) ls i (get_or ls i unused) unused l refl

module _ (o : Settings) (m : Machine) (w : Whole o.posts m) (i : ℕ) (l : i < o.posts) where
  pub taken : (d : Deeds) → number_in o.k (tick_doing o.k (post_at m i).place d (post_at m i).memory) ≡
      cond d.moves (next_by o.k i (get_or (numbers_of o m).heard i 0) (get_or (numbers_of o m).own i 0)) (get_or (numbers_of o m).own i 0)
  taken d =
      rw (numbers_heard o o.posts m w i l, numbers_own o o.posts m w i l)
      (subst (λ p. number_in o.k (tick_doing o.k (post_at m i).place d (post_at m i).memory) ≡ cond d.moves (next_by o.k p (heard_in o.k (post_at m i).memory) (number_in o.k (post_at m i).memory)) (number_in o.k (post_at m i).memory))
      (w.placed i nobody l) (doing_number o.k (post_at m i).place d (post_at m i).memory (positive o)))

  -- a tick with any choice of moving and sending
  pub doing_numbers : (d : Deeds) → numbers_of o (tick_doing_of o d i m) ≡ acts o.k i d.moves d.sends (numbers_of o m)
  unfolding numbers_of
  doing_numbers d =
      let q = post_at m i in
      let v = number_in o.k (tick_doing o.k q.place d q.memory) in
      let b : v < o.k = norm_below o.k _ (positive o) in
      let c : norm o.k (number_carried (frame_bytes q.place v)) ≡ v = ap (norm o.k) (carried q.place v) ∙ norm_is o.k v b in
      same_numbers
      (set_map (λ (p : Post). number_in o.k p.memory) m.posts i _ v refl)
      (line_after o d.sends (frame_bytes q.place v) m.lines i v (omega (arith, w.line_count)) c)
      (keep_map (λ (p : Post). heard_in o.k p.memory) m.posts i _ nobody (omega (arith, w.count_of_posts)) (doing_heard o.k q.place d q.memory (positive o)))
      ∙ sym (acts_parts o.k i d.moves d.sends (numbers_of o m) v (rw (length-map m.posts (λ (p : Post). number_in o.k p.memory)) (omega (arith, w.count_of_posts))) (taken d))

  -- a number that is heard is the one on the line
  pub heard_numbers : numbers_of o (record { posts = set m.posts i (hear_by None o (line_at m (preceding o.posts i)).frame (post_at m i)).0; lines = m.lines }) ≡ hears o.posts i (numbers_of o m)
  unfolding numbers_of
  heard_numbers =
      same_numbers
      (keep_map (λ (p : Post). number_in o.k p.memory) m.posts i _ nobody (omega (arith, w.count_of_posts))
      (norm_is o.k (number_in o.k (post_at m i).memory) (norm_below o.k (post_at m i).memory.number (positive o))))
      refl
      (set_map (λ (p : Post). heard_in o.k p.memory) m.posts i _ _ (sym (numbers_sent o o.posts m w (preceding o.posts i) (preceding_below o.posts i l))))

  -- a hear by what the reader says of the frame: it is refused, or the number on the line is heard
  pub hears_by : (f : Option Fault) →
      (numbers_of o (record { posts = set m.posts i (hear_by f o (line_at m (preceding o.posts i)).frame (post_at m i)).0; lines = m.lines }) ≡ numbers_of o m) ⊎
      (numbers_of o (record { posts = set m.posts i (hear_by f o (line_at m (preceding o.posts i)).frame (post_at m i)).0; lines = m.lines }) ≡ hears o.posts i (numbers_of o m))
  unfolding numbers_of
  hears_by (Some f) =
      inl (same_numbers
      (keep_map (λ (p : Post). number_in o.k p.memory) m.posts i (post_at m i) nobody (omega (arith, w.count_of_posts)) refl)
      refl
      (keep_map (λ (p : Post). heard_in o.k p.memory) m.posts i (post_at m i) nobody (omega (arith, w.count_of_posts)) refl))
  hears_by None = inr heard_numbers

  pub hear_numbers : (numbers_of o (hear_of o i m) ≡ numbers_of o m) ⊎ (numbers_of o (hear_of o i m) ≡ hears o.posts i (numbers_of o m))
  hear_numbers = lost_or (line_at m (preceding o.posts i)).lost
    where
      heard_machine : Machine
      heard_machine = record { posts = set m.posts i (hear_step o (line_at m (preceding o.posts i)).frame (post_at m i)).0; lines = m.lines }

      lost_or : (b : Bool) → (numbers_of o (cond b m heard_machine) ≡ numbers_of o m) ⊎ (numbers_of o (cond b m heard_machine) ≡ hears o.posts i (numbers_of o m))
      lost_or true = inl refl
      lost_or false = hears_by (first_fault (frame_checks o.posts o.k (post_at m i).place (line_at m (preceding o.posts i)).frame))

  pub lose_numbers : numbers_of o (lose_of i m) ≡ numbers_of o m
  unfolding numbers_of
  lose_numbers =
      same_numbers refl (keep_map (λ (b : Line). norm o.k (number_carried b.frame)) m.lines i _ unused (omega (arith, w.line_count)) refl) refl

  pub button_numbers : (b : Bool) → numbers_of o (button_of b i m) ≡ numbers_of o m
  unfolding numbers_of
  button_numbers b =
      same_numbers
      (keep_map (λ (p : Post). number_in o.k p.memory) m.posts i _ nobody (omega (arith, w.count_of_posts)) refl)
      refl
      (keep_map (λ (p : Post). heard_in o.k p.memory) m.posts i _ nobody (omega (arith, w.count_of_posts)) refl)

-- a machine's numbers are fit
pub machine_fit : (o : Settings) (m : Machine) → Whole o.posts m → Fit o.posts o.k (numbers_of o m)
unfolding numbers_of
machine_fit o m w = record {
  owns = length-map m.posts _ ∙ w.count_of_posts;
  sents = length-map m.lines _ ∙ w.line_count;
  hearings = length-map m.posts _ ∙ w.count_of_posts;
  own_below = λ p l. rw (numbers_own o o.posts m w p l) (norm_below o.k _ (positive o));
  sent_below = λ p l. rw (numbers_sent o o.posts m w p l) (norm_below o.k _ (positive o));
  heard_below = λ p l. rw (numbers_heard o o.posts m w p l) (norm_below o.k _ (positive o));
}
