-- The members of a ring by their places, and their names in text: post i, then the frame on its line, then the line's end.
-- Assumes nothing.
use Rattle.std.specs.Prelude.{ℕ, zero, suc, ◌+◌, ◌*◌, ◌/◌, ◌%◌, List, ◌++◌, codes, decimal}
use Rattle.frames.specs.declared.member.Member.{Member}
use Rattle.frames.specs.declared.member.Member.TheVariants.{Post, Frame, End}

-- where a member stands in the ring, three for each post
abbrev pub place_of : Member → ℕ
place_of (Post i) = 3 * i
place_of (Frame i) = 3 * i + 1
place_of (End i) = 3 * i + 2

-- what a member is, by its place modulo 3
abbrev pub part_of : ℕ → List ℕ
part_of zero = codes "post "
part_of (suc zero) = codes "frame "
part_of (suc (suc i)) = codes "end "

abbrev pub name_of : ℕ → List ℕ
name_of i = part_of (i % 3) ++ decimal (i / 3)
