-- What a call leaves in the caller's buffer, of bytes or of numbers.
use Rattle.std.specs.Prelude.{◌≡◌, ℕ, ◌<◌, ◌≤◌, List, ◌++◌, length, drop, Bool, true, false}

-- the text stands at the front, and the rest is as it was
pub record StandsIn {A : Type 0} (text before after : List A) : Type 0 where
  pub fits : length text ≤ length before
  pub front : after ≡ text ++ drop (length text) before

-- the text is too long, and all is as it was
pub record IsTooLong {A : Type 0} (text before after : List A) : Type 0 where
  pub longer : length before < length text
  pub unchanged : after ≡ before

abbrev pub StandsOrNot : {A : Type 0} → List A → List A → List A → Bool → Type 0
StandsOrNot text before after true = StandsIn text before after
StandsOrNot text before after false = IsTooLong text before after
