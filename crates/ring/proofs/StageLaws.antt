-- What a step over lent slices owes: they hold the stage that it leads to, in step. Assumes nothing.
use Rattle.std.proofs.Common.{◌≡◌, ◌*◌, ◌<◌, length, refl, ap, ◌∙◌, subst, sym, arith}
use Rattle.frames.specs.declared.settings.Settings.{Settings}
use Rattle.members.specs.Ring.{State, how_many}
use Rattle.ring.specs.declared.stage.Stage.{Stage as LentStage}
use Rattle.ring.specs.declared.tally.Tally.{Tally}
use Rattle.ring.specs.Bound.{Sound}
use Rattle.ring.specs.Lent.{Becomes, KeptInStep, SameSlices, stage_in}
use Rattle.ring.specs.Machine.{Event, Machine, Whole, numbers_of, post_of, state_in}
use Rattle.ring.specs.Plays.{Stage, begins, happened}
use Rattle.ring.specs.Promise.{ring_of_settings}
use Rattle.ring.specs.Tallies.{Counted, anew}
use Rattle.ring.proofs.DisturbLaws.{anew_ap}
use Rattle.ring.proofs.Holders.{count_any}
use Rattle.ring.proofs.KeptLaws.{sound_anew, sound_event}
use Rattle.ring.proofs.Places.{state_length}
use Rattle.ring.proofs.TickLaws.{ring_same}

-- numbers that are the machine's can be noted, where so many of its members may move
pub kept_length : (o : Settings) (m : Machine) (s : State) → s ≡ state_in o m → length s ≡ 3 * o.posts
kept_length o m s same = ap length same ∙ state_length o.posts (numbers_of o m)

pub kept_numbers : (o : Settings) (m : Machine) (s : State) (y : Tally) → s ≡ state_in o m → y.holders ≡ how_many (ring_of_settings o) s (3 * o.posts) → Counted s y.holders
kept_numbers o m s y same counted =
    let e = kept_length o m s same in
    record {
      big = omega (arith, e, o.some);
      counted = λ k. counted ∙ (ap (how_many (ring_of_settings o) s) (sym e) ∙ (ap (λ r. how_many r s (length s)) (sym (ring_same o s e)) ∙ count_any (length s) o.k k s (length s)));
    }

module _ (x : LentStage) (h : KeptInStep x) where
  pub step_length : length x.numbers.now ≡ 3 * x.settings.now.posts
  step_length = kept_length x.settings.now (stage_in x).machine x.numbers.now h.same

  pub step_numbers : Counted x.numbers.now x.tally.holders
  step_numbers =
      let o = x.settings.now in
      kept_numbers o (stage_in x).machine x.numbers.now x.tally h.same (h.sound.counted ∙ ap (λ t. how_many (ring_of_settings o) t (3 * o.posts)) (sym h.same))

stage_is : (x : LentStage) (z : Stage) → x.posts.now ≡ z.machine.posts → x.lines.now ≡ z.machine.lines → x.tally ≡ z.tally → stage_in x ≡ z
stage_is x z a b c =
    ap (λ ps. record { machine = record { posts = ps; lines = x.lines.now }; tally = x.tally }) a ∙
    (ap (λ ls. record { machine = record { posts = z.machine.posts; lines = ls }; tally = x.tally }) b ∙
    ap (λ y. record { machine = z.machine; tally = y }) c)

becomes : (x y : LentStage) (z : Stage) → Sound x.settings.now z.machine z.tally → SameSlices x y →
    y.posts.now ≡ z.machine.posts → y.lines.now ≡ z.machine.lines → y.tally ≡ z.tally → y.numbers.now ≡ state_in x.settings.now z.machine → Becomes x y z
becomes x y z h s a b c n =
    let e = stage_is y z a b c in
    let q = sym s.settings in
    record {
      slices = s;
      stage = e;
      in_step = record {
        sound = subst (λ (w : Stage). Sound y.settings.now w.machine w.tally) (sym e) (subst (λ o. Sound o z.machine z.tally) q h);
        same = n ∙ (ap (λ o. state_in o z.machine) q ∙ ap (λ (w : Stage). state_in y.settings.now w.machine) (sym e));
      };
    }

-- an event
pub comes : (x y : LentStage) (e : Event) → KeptInStep x → post_of e < x.settings.now.posts → SameSlices x y →
    let z : Stage = happened x.settings.now e (stage_in x) in
    y.posts.now ≡ z.machine.posts → y.lines.now ≡ z.machine.lines → y.tally ≡ z.tally → y.numbers.now ≡ state_in x.settings.now z.machine → Becomes x y z
comes x y e h l s = becomes x y (happened x.settings.now e (stage_in x)) (sound_event x.settings.now e (stage_in x).machine x.tally h.sound l) s

-- a disturbance that leaves a whole machine
pub restarts : (x y : LentStage) (m : Machine) → Whole x.settings.now.posts m → SameSlices x y →
    y.posts.now ≡ m.posts → y.lines.now ≡ m.lines → y.tally ≡ anew (ring_of_settings x.settings.now) y.numbers.now → y.numbers.now ≡ state_in x.settings.now m → Becomes x y (begins x.settings.now m)
restarts x y m w s a b t n = becomes x y (begins x.settings.now m) (sound_anew x.settings.now m w) s a b (t ∙ anew_ap refl n) n

-- nothing happens
pub stays : (x : LentStage) → KeptInStep x → Becomes x x (stage_in x)
stays x h = record { slices = record { settings = refl; posts = refl; lines = refl; numbers = refl }; stage = refl; in_step = h }
