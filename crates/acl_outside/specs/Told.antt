-- What the outside may tell or keep to itself: a real file or terminal tells nothing of its
-- content.
use Rattle.std.specs.Prelude.{Option, Some, None, ⊤}

-- What is told changes by P, and what isn't told stays so.
abbrev pub Changes : {A : Type 0} → (A → A → Type 0) → Option A → Option A → Type 0
Changes P None None = ⊤
Changes P (Some old) (Some new) = P old new
Changes P None (Some new) = ⊥
Changes P (Some old) None = ⊥
