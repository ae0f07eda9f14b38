use Rattle.std.specs.Prelude.{ℕ, ◌+◌, ◌/◌, ◌%◌, Bool, true, false, cond, not, ◌&&◌, ◌||◌, List, [], ◌∷◌, ◌++◌, length, ◌==◌}
use Rattle.leb128.specs.Leb128.{uleb}
use Rattle.source.specs.Meaning.{Scope, relative, nested, root, Side}

-- The weak-link record of a source: 07, the flags, the start, the end.

-- An id is its client, then its clock.
abbrev pub id_bytes : ℕ → ℕ → List ℕ
id_bytes c k = uleb c ++ uleb k

-- A name is its byte count, then its bytes.
abbrev pub name_bytes : List ℕ → List ℕ
name_bytes n = uleb (length n) ++ n

abbrev pub scope_bytes : Scope → List ℕ
scope_bytes (relative c k) = id_bytes c k
scope_bytes (nested c k) = id_bytes c k
scope_bytes (root n) = name_bytes n

abbrev pub is_open : Scope → Bool
is_open (relative c k) = false
is_open (nested c k) = true
is_open (root n) = true

abbrev pub by_name : Scope → Bool
by_name (relative c k) = false
by_name (nested c k) = false
by_name (root n) = true

-- Both anchors at one id.
abbrev pub single : Scope → Scope → Bool
single (relative c k) (relative d l) = c == d && k == l
single (relative c k) (nested d l) = false
single (relative c k) (root n) = false
single (nested c k) s = false
single (root n) s = false

-- A flag of weight w counts w where it is set.
abbrev pub bit : ℕ → Bool → ℕ
bit w t = cond t w 0

-- Whether the flag of weight w is set in a flag byte.
abbrev pub has_flag : ℕ → ℕ → Bool
has_flag w f = f / w % 2 == 1

-- 01 not single, 02 start After, 04 end After, 08 start open, 10 end open, 20 by root name
abbrev pub flags : Side → Side → ℕ
flags s e =
    bit 1 (not (single s.0 e.0)) + bit 2 s.1 + bit 4 e.1 + bit 8 (is_open s.0) + bit 16 (is_open e.0) + bit 32 (by_name s.0 || by_name e.0)

-- 07, the flags, the start.
abbrev pub front_bytes : ℕ → Scope → List ℕ
front_bytes f s = 7 ∷ f ∷ scope_bytes s

-- A single source writes no end.
abbrev pub end_bytes : Bool → Scope → List ℕ
end_bytes true e = []
end_bytes false e = scope_bytes e

abbrev pub record_of : Side → Side → List ℕ
record_of s e = front_bytes (flags s e) s.0 ++ end_bytes (single s.0 e.0) e.0
