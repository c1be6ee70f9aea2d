-- Bytes as one number. Assumes nothing.
use Rattle.std.specs.Prelude.{ℕ, ◌+◌, ◌*◌, List, fold}

-- the number that bytes stand for, the high byte first
abbrev pub value_of : List ℕ → ℕ
value_of bs = fold (λ v b. v * 256 + b) 0 bs
