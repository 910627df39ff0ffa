-- The exit status of a program that says something of an image.
use Rattle.std.specs.Prelude.{ℕ, Ok, Err, Result}

-- 0 where there is something to say, and 1 where the image is refused
abbrev pub status_of : {A B : Type 0} → Result A B → ℕ
status_of (Ok t) = 0
status_of (Err t) = 1
