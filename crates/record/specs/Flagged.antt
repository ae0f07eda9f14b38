use Rattle.std.specs.Prelude.{◌≡◌, ℕ, Bool, true, false, ◌||◌}
use Rattle.std.specs.Bool.{then_some}
use Rattle.source.specs.Meaning.{sticks_after}
use Rattle.record.specs.declared.flags.Form.{Form}
use Rattle.record.specs.declared.flags.Form.TheVariants.{Anchor, Nested, Root}
use Rattle.record.specs.declared.flags.Flags.{Flags}
use Rattle.record.specs.Format.{has_flag}

-- How a scope is written, by whether it is open, and by whether an open one is named.
abbrev pub form_of : (o by_name : Bool) → Form
form_of false n = Anchor
form_of true false = Nested
form_of true true = Root

abbrev pub opens : Form → Bool
opens Anchor = false
opens Nested = true
opens Root = true

abbrev pub names : Form → Bool
names Anchor = false
names Nested = false
names Root = true

-- What a flag byte says of its record. An end is written where it is open, or where the source is not single.
abbrev pub FlagsOf : ℕ → Flags → Type 0
FlagsOf f flags =
    (flags.start ≡ form_of (has_flag 8 f) (has_flag 32 f)) × (sticks_after flags.start_assoc ≡ has_flag 2 f)
    × (flags.end ≡ then_some (has_flag 16 f || has_flag 1 f) (form_of (has_flag 16 f) (has_flag 32 f))) × (sticks_after flags.end_assoc ≡ has_flag 4 f)
