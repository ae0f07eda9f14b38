use Rattle.std.specs.Prelude.{◌≡◌, ℕ, ◌+◌, ◌^◌, ◌<◌, Bool, cond, List, [], ◌∷◌, map, length, Some, None, Ok, Err, Option, MatchOption, Result, slice_index_or, ◌==◌, nat_eq, nat_lt}
use Rattle.std.specs.Option.{option_map}
use Rattle.law.specs.Plain.{put, with_new}
use Rattle.registry.specs.declared.clients.Client.{Client}
use Rattle.registry.specs.declared.clients.Clients.{Clients}
use Rattle.registry.specs.declared.clients.ClientRefusal.{ClientRefusal}
use Rattle.registry.specs.declared.clients.ClientRefusal.TheVariants as no
use Rattle.registry.specs.FixedLists.{items_of}
use Rattle.registry.specs.Places.{place_by}

-- The number of each refusal.
abbrev pub client_refusal : ClientRefusal → ℕ
client_refusal no.Large = 4
client_refusal no.Full = 5

-- The clients that have inserted.
abbrev pub clients_of : Clients → List Client
clients_of s = items_of s.clients

-- Whether an entry is a client's.
abbrev pub is_client : ℕ → Client → Bool
is_client c e = c == e.number

-- How many units a client has inserted.
abbrev pub count_in : ℕ → List Client → ℕ
count_in c [] = 0
count_in c (e ∷ es) = cond (is_client c e) e.count (count_in c es)

-- A count stands at a place of the list; where there is no place, it is 0.
abbrev pub CountStands : List Client → Option ℕ → ℕ → Type 0
CountStands es o m = MatchOption o (m ≡ 0) (λ k. (k < length es) × ((d : Client) → (slice_index_or es k d).count ≡ m))

-- Whether a known client, or a new one beside so many, may insert.
abbrev pub seated : ℕ → Option ℕ → Result (Unit {0}) ClientRefusal
seated n (Some p) = Ok tt
seated n None = cond (nat_lt n 16) (Ok tt) (Err no.Full)

-- Whether a client may insert: its number is below 2^53, and it is known or fewer than 16 have inserted.
abbrev pub admitted : ℕ → List Client → Result (Unit {0}) ClientRefusal
admitted c es = cond (nat_lt c (2 ^ 53)) (seated (length es) (place_by (is_client c) es)) (Err no.Large)

-- A client with so many units more.
abbrev pub raised : ℕ → Client → Client
raised n e = record { number = e.number; count = e.count + n }

-- The clients after one of them has inserted so many units more; a new one comes last.
abbrev pub credited : ℕ → ℕ → List Client → List Client
credited c n [] = record { number = c; count = n } ∷ []
credited c n (e ∷ es) = cond (is_client c e) (raised n e ∷ es) (e ∷ credited c n es)

-- The first clock of units that a client inserts, if it is known and its clocks fit 32 bits, or new and fewer than 16 have inserted.
abbrev pub clock_for : ℕ → List Client → Option ℕ → Option ℕ
clock_for total es (Some p) = cond (nat_lt total (2 ^ 32)) (Some p) None
clock_for total es None = cond (nat_lt (length es) 16) (Some 0) None

abbrev pub clock_of : ℕ → ℕ → List Client → Option ℕ
clock_of c n es = clock_for (count_in c es + n) es (option_map (λ _. count_in c es) (place_by (is_client c) es))

-- The clients afterwards; where no clock is told, nothing has changed.
abbrev pub Crediting : ℕ → ℕ → Clients → Clients → Option ℕ → Type 0
Crediting c n s z None = z ≡ s
Crediting c n s z (Some k) = clients_of z ≡ credited c n (clients_of s)

-- In the order of first insertions a new client comes last, and no count but this client's has changed.
pub record Credit (c n : ℕ) (es : List Client) : Type 0 where
  pub order : map (λ e. e.number) (credited c n es) ≡ with_new nat_eq c (map (λ e. e.number) es)
  pub counts : (d : ℕ) → count_in d (credited c n es) ≡ put c (count_in c es + n) (λ m. count_in m es) d
