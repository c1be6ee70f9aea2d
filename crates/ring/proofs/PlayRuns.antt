-- A script that is being played: the lines that were played, and what they left and said. Assumes nothing.
use Rattle.std.proofs.Common.{◌≡◌, ℕ, suc, ◌+◌, ◌*◌, ◌<◌, ◌≤◌, List, [], ◌∷◌, ◌++◌, length, sym, refl, ap, ◌∙◌, subst, append_assoc, append-nil, arith, length-append}
use Rattle.std.proofs.lemmas.List.{nil_from_length}
use Rattle.frames.specs.declared.settings.Settings.{Settings}
use Rattle.lines.specs.Text.{lines_of}
use Rattle.members.specs.Ring.{State}
use Rattle.posts.specs.declared.post.Post.{Post}
use Rattle.ring.specs.declared.line.Line.{Line}
use Rattle.ring.specs.declared.report.Report.{Report}
use Rattle.ring.specs.declared.stage.Stage.{Stage as LentStage}
use Rattle.ring.specs.declared.tally.Tally.{Tally}
use Rattle.ring.specs.Bound.{HeldTo}
use Rattle.ring.specs.Lent.{Becomes, KeptInStep, SameSlices, stage_in}
use Rattle.ring.specs.Machine.{state_in}
use Rattle.ring.specs.Plays.{Stage, begins, line_stage, line_says, played, sayings}
use Rattle.ring.specs.Promise.{ring_of_settings}
use Rattle.ring.specs.Tallies.{anew}
use Rattle.ring.specs.Reports.{Adds, PlayedWhole, Tells}
use Rattle.ring.proofs.PlayLaws.{played_more, sayings_more}
use Rattle.ring.proofs.SayLaws.{tells_more}

-- from the stage x, with these settings and this machine, so many lines led to the stage y
pub record Midplay (o : Settings) (script rest : List ℕ) (x y : LentStage) (line : ℕ) (r : Report) : Type 0 where
  pub slices : SameSlices x y
  pub in_step : KeptInStep y
  pub set : y.settings.now ≡ o
  pub done : List (List ℕ)
  pub split : done ++ lines_of rest ≡ lines_of script
  pub so_far : line ≡ length done
  pub stage : stage_in y ≡ played o done (begins o (stage_in x).machine)
  pub tells : Tells r (sayings o 0 done (begins o (stage_in x).machine))
  pub few_lines : line + length rest ≤ length script
  pub few_moves : y.tally.moves ≤ 2 * line

-- nothing was played yet
pub midplay_none : (o : Settings) (script : List ℕ) (x : LentStage) (r : Report) → x.settings.now ≡ o → KeptInStep x → x.tally ≡ anew (ring_of_settings o) (state_in o (stage_in x).machine) → Tells r [] →
    Midplay o script script x x 0 r
unfolding played sayings anew
midplay_none o script x r e h t q = record {
  slices = record { settings = refl; posts = refl; lines = refl; numbers = refl };
  in_step = h;
  set = e;
  done = [];
  split = refl;
  so_far = refl;
  stage = ap (λ y. record { machine = (stage_in x).machine; tally = y }) t;
  tells = q;
  few_lines = omega arith;
  few_moves = omega (arith, ap (λ (z : Tally). z.moves) t);
}

same_next : (x y z : LentStage) → SameSlices x y → SameSlices y z → SameSlices x z
same_next x y z p q = record { settings = q.settings ∙ p.settings; posts = q.posts ∙ p.posts; lines = q.lines ∙ p.lines; numbers = q.numbers ∙ p.numbers }

module _ (o : Settings) (script rest : List ℕ) (x y : LentStage) (line : ℕ) (r : Report) (h : Midplay o script rest x y line r) where
  -- one line more
  pub midplay_more : (text after : List ℕ) (z : LentStage) (q : Report) → lines_of rest ≡ text ∷ lines_of after → length after < length rest →
      Becomes y z (line_stage y.settings.now text (stage_in y)) → Adds r q (line_says y.settings.now (line + 1) text (stage_in y).machine) →
      z.tally.moves ≤ y.tally.moves + 2 → Midplay o script after x z (line + 1) q
  midplay_more text after z q e l b a c =
      let s = begins o (stage_in x).machine in
      let n : line + 1 ≡ suc (0 + length h.done) = omega (arith, h.so_far) in
      let p = ap (λ w. line_says w (line + 1) text (stage_in y).machine) h.set ∙ (ap (λ k. line_says o k text (stage_in y).machine) n ∙ ap (λ (w : Stage). line_says o (suc (0 + length h.done)) text w.machine) h.stage) in
      record {
        slices = same_next x y z h.slices b.slices;
        in_step = b.in_step;
        set = b.slices.settings ∙ h.set;
        done = h.done ++ text ∷ [];
        split = append_assoc h.done (text ∷ []) (lines_of after) ∙ (ap (λ w. h.done ++ w) (sym e) ∙ h.split);
        so_far = omega (arith, h.so_far, length-append h.done (text ∷ []));
        stage = b.stage ∙ (ap (λ w. line_stage w text (stage_in y)) h.set ∙ (ap (line_stage o text) h.stage ∙ sym (played_more o h.done text s)));
        tells = subst (Tells q) (sym (sayings_more o 0 h.done text s)) (tells_more r q (sayings o 0 h.done s) _ h.tells (subst (Adds r q) p a));
        few_lines = omega (arith, h.few_lines);
        few_moves = omega (arith, h.few_moves);
      }

-- all lines were played, and these slices were left
pub midplay_all : (o : Settings) (script rest : List ℕ) (x y : LentStage) (line : ℕ) (r : Report) (ps : List Post) (ls : List Line) (s : State) → Midplay o script rest x y line r → length rest ≡ 0 →
    ps ≡ y.posts.now → ls ≡ y.lines.now → s ≡ y.numbers.now → PlayedWhole o script (stage_in x).machine ps ls s record { said = r.said; numbers = r.numbers; speakers = r.speakers; tally = y.tally }
unfolding lines_of
midplay_all o script rest x y line r ps ls s h e a b c =
    let g = begins o (stage_in x).machine in
    let d : h.done ≡ lines_of script = sym (append-nil h.done) ∙ (ap (λ z. h.done ++ lines_of z) (sym (nil_from_length rest e)) ∙ h.split) in
    let p = h.stage ∙ ap (λ z. played o z g) d in
    let n = c ∙ h.in_step.same in
    let t = subst (λ z. Tells r (sayings o 0 z g)) d h.tells in
    record {
      holds = record {
        posts = a ∙ ap (λ (z : Stage). z.machine.posts) p;
        lines = b ∙ ap (λ (z : Stage). z.machine.lines) p;
        numbers = n ∙ (ap (λ z. state_in z (stage_in y).machine) h.set ∙ ap (λ (z : Stage). state_in o z.machine) p);
      };
      tally = ap (λ (z : Stage). z.tally) p;
      tells = record { said = t.said; numbers = t.numbers; speakers = t.speakers };
      held = subst (λ z. HeldTo (ring_of_settings z) s y.tally) h.set (subst (λ z. HeldTo (ring_of_settings y.settings.now) z y.tally) (sym n) h.in_step.sound.held);
    }
