-- A memory is determined by its bytes. Assumes nothing.
use Rattle.std.proofs.Common.{◌≡◌, ℕ, ◌/◌, ◌%◌, ◌<◌, arith}
use Rattle.std.specs.Int.{to_be_bytes, w16, w32}
use Rattle.lines.specs.Words.{word_bytes}
use Rattle.posts.specs.Layout.{count_bytes}

-- the library's bytes of a number are those of the layout
pub word_written : (v : ℕ) → v < 65536 → to_be_bytes w16 v ≡ word_bytes v
word_written v h = let a : v / 256 % 256 ≡ v / 256 = omega arith in cc

pub count_written : (v : ℕ) → v < 4294967296 → to_be_bytes w32 v ≡ count_bytes v
count_written v h =
    let a : v / 16777216 % 256 ≡ v / 65536 / 256 = omega arith in
    let b : v / 65536 % 256 ≡ v / 65536 % 256 = omega arith in
    let d : v / 256 % 256 ≡ v % 65536 / 256 = omega arith in
    let e : v % 256 ≡ v % 65536 % 256 = omega arith in
    cc
