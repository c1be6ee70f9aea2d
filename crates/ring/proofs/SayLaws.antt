-- How the sayings of a report add up. Assumes nothing.
use Rattle.std.proofs.Common.{List, [], ◌++◌, map, vec_items, sym, ap, ◌∙◌, append-nil}
use Rattle.std.specs.List.{flat_map}
use Rattle.std.proofs.lemmas.Grind.{flat_map-append}
use Rattle.std.proofs.lemmas.List.{map-append}
use Rattle.ring.specs.declared.report.Report.{Report}
use Rattle.ring.specs.Plays.{Saying}
use Rattle.ring.specs.Reports.{Adds, Tells, said_of, numbers_said, speakers_said}

-- nothing more is said
pub adds_none : (r : Report) → Adds r r []
adds_none r = record { said = sym (append-nil (vec_items r.said)); numbers = sym (append-nil (vec_items r.numbers)); speakers = sym (append-nil (vec_items r.speakers)) }

-- some more is said
pub tells_more : (r q : Report) (xs ys : List Saying) → Tells r xs → Adds r q ys → Tells q (xs ++ ys)
tells_more r q xs ys t a = record {
  said = a.said ∙ (ap (λ z. z ++ map said_of ys) t.said ∙ sym (map-append said_of xs ys));
  numbers = a.numbers ∙ (ap (λ z. z ++ flat_map numbers_said ys) t.numbers ∙ sym (flat_map-append numbers_said xs ys));
  speakers = a.speakers ∙ (ap (λ z. z ++ flat_map speakers_said ys) t.speakers ∙ sym (flat_map-append speakers_said xs ys));
}
