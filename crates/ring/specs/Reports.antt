-- What a play leaves in lent slices and what its report holds. Assumes nothing.
use Rattle.std.specs.Prelude.{◌≡◌, ℕ, Bool, List, [], ◌++◌, map, Ok, Err, vec_items, Result}
use Rattle.std.specs.List.{flat_map}
use Rattle.frames.specs.declared.settings.Settings.{Settings}
use Rattle.lines.specs.Text.{lines_of}
use Rattle.members.specs.Ring.{State}
use Rattle.posts.specs.declared.post.Post.{Post}
use Rattle.ring.specs.declared.line.Line.{Line}
use Rattle.ring.specs.declared.play_error.PlayError.{PlayError}
use Rattle.ring.specs.declared.play_error.PlayError.TheVariants.{Unfit, Memory}
use Rattle.ring.specs.declared.report.Report.{Report}
use Rattle.ring.specs.declared.report.Said.{Said}
use Rattle.ring.specs.declared.report.Said.TheVariants.{Shown, Refused}
use Rattle.ring.specs.Bound.{HeldTo}
use Rattle.ring.specs.Machine.{Machine, state_in}
use Rattle.ring.specs.Plays.{Fitting, begins, Saying, shown, refused, played, sayings}
use Rattle.ring.specs.Promise.{ring_of_settings}

-- how a saying is reported: in short, with the numbers and the speakers of a show apart
abbrev pub said_of : Saying → Said
said_of (shown p s b moves since) = Shown record { post = p; moves = moves; since = since }
said_of (refused line fault) = Refused line fault

abbrev pub numbers_said : Saying → State
numbers_said (shown p s b moves since) = s
numbers_said (refused line fault) = []

abbrev pub speakers_said : Saying → List Bool
speakers_said (shown p s b moves since) = b
speakers_said (refused line fault) = []

-- a report q that has the sayings of r and then some more
pub record Adds (r q : Report) (says : List Saying) : Type 0 where
  pub said : vec_items q.said ≡ vec_items r.said ++ map said_of says
  pub numbers : vec_items q.numbers ≡ vec_items r.numbers ++ flat_map numbers_said says
  pub speakers : vec_items q.speakers ≡ vec_items r.speakers ++ flat_map speakers_said says

-- a report of these sayings
pub record Tells (r : Report) (says : List Saying) : Type 0 where
  pub said : vec_items r.said ≡ map said_of says
  pub numbers : vec_items r.numbers ≡ flat_map numbers_said says
  pub speakers : vec_items r.speakers ≡ flat_map speakers_said says

-- the slices hold a machine and its numbers
pub record Holds (o : Settings) (m : Machine) (ps : List Post) (ls : List Line) (s : State) : Type 0 where
  pub posts : ps ≡ m.posts
  pub lines : ls ≡ m.lines
  pub numbers : s ≡ state_in o m

-- a script that was played to its end from machine m
pub record PlayedWhole (o : Settings) (script : List ℕ) (m : Machine) (ps : List Post) (ls : List Line) (s : State) (r : Report) : Type 0 where
  pub holds : Holds o (played o (lines_of script) (begins o m)).machine ps ls s
  pub tally : r.tally ≡ (played o (lines_of script) (begins o m)).tally
  pub tells : Tells r (sayings o 0 (lines_of script) (begins o m))
  pub held : HeldTo (ring_of_settings o) s r.tally

-- one of which some first lines were played
pub record PlayedSome (o : Settings) (script : List ℕ) (m : Machine) (ps : List Post) (ls : List Line) (s : State) : Type 0 where
  pub done : List (List ℕ)
  pub left : List (List ℕ)
  pub lines : done ++ left ≡ lines_of script
  pub holds : Holds o (played o done (begins o m)).machine ps ls s

-- what comes of a script: where the slices don't fit nothing is changed, and where memory fails some first lines were played
abbrev pub Outcome : Settings → List ℕ → List Post → List Line → State → List Post → List Line → State → Result Report PlayError → Type 0
Outcome o script ps ls s ps' ls' s' (Ok r) = Fitting o ps ls s × PlayedWhole o script (record { posts = ps; lines = ls }) ps' ls' s' r
Outcome o script ps ls s ps' ls' s' (Err Memory) = Fitting o ps ls s × PlayedSome o script (record { posts = ps; lines = ls }) ps' ls' s'
Outcome o script ps ls s ps' ls' s' (Err Unfit) = (Fitting o ps ls s → ⊥) × (ps' ≡ ps) × (ls' ≡ ls) × (s' ≡ s)
