-- The premise of the claim on lists of calls: equal keys carry equal hashes, in pushes, reused and copied ones too, lookups, peeks and clearings; hashes are
-- numbers of 64 bits; and a setting that is opened is what its types ensure, for a file has so many bytes for its numbers and no more. A probe may carry any
-- hash: the book has no answer to it.
-- Assumes nothing.
use Rattle.std.specs.Prelude.{◌≡◌, ℕ, ◌^◌, ◌<◌}
use mathlib.Core.List.{List, [], ◌∷◌, ◌++◌, Memᴰ}
use Rattle.files.specs.Typed.{Typed}
use Rattle.book.specs.Calls.{Call, opening, push, finish, lookup, peek, clear, probe, walk, stats, reopen, reuse, copy, refinish, write, load}

-- the key of a call, with the hash that it carries
abbrev pub carried_by : {Area File : Type 0} → Call Area File → List (List ℕ × ℕ)
carried_by (opening config records arena index filter starts lengths) = []
carried_by (push key v hash lifetime) = (key, hash) ∷ []
carried_by (finish target scratch) = []
carried_by (lookup set key hash tick) = (key, hash) ∷ []
carried_by (peek set key hash tick) = (key, hash) ∷ []
carried_by (clear set key hash) = (key, hash) ∷ []
carried_by (probe set key hash tick) = []
carried_by (walk set slot tick) = []
carried_by (stats set) = []
carried_by (reopen records copied flags tick index filter starts lengths) = []
carried_by (reuse key v hash location header) = (key, hash) ∷ []
carried_by (copy key v hash lifetime) = (key, hash) ∷ []
carried_by (refinish scratch) = []
carried_by (write set file) = []
carried_by (load file arena index filter starts lengths) = []

abbrev pub carried : {Area File : Type 0} → List (Call Area File) → List (List ℕ × ℕ)
carried [] = []
carried (c ∷ cs) = carried_by c ++ carried cs

abbrev pub EqualHashes : {Area File : Type 0} → List (Call Area File) → Type 0
EqualHashes cs = (key : List ℕ) (h g : ℕ) → Memᴰ (key, h) (carried cs) → Memᴰ (key, g) (carried cs) → h ≡ g

abbrev pub Hashes64 : {Area File : Type 0} → List (Call Area File) → Type 0
Hashes64 cs = (key : List ℕ) (h : ℕ) → Memᴰ (key, h) (carried cs) → h < 2 ^ 64

-- what the types ensure of the setting of an open
abbrev pub TypedBy : {Area File : Type 0} → Call Area File → Type 0
TypedBy (opening config records arena index filter starts lengths) = Typed config
TypedBy (push key v hash lifetime) = Unit {0}
TypedBy (finish target scratch) = Unit {0}
TypedBy (lookup set key hash tick) = Unit {0}
TypedBy (peek set key hash tick) = Unit {0}
TypedBy (clear set key hash) = Unit {0}
TypedBy (probe set key hash tick) = Unit {0}
TypedBy (walk set slot tick) = Unit {0}
TypedBy (stats set) = Unit {0}
TypedBy (reopen records copied flags tick index filter starts lengths) = Unit {0}
TypedBy (reuse key v hash location header) = Unit {0}
TypedBy (copy key v hash lifetime) = Unit {0}
TypedBy (refinish scratch) = Unit {0}
TypedBy (write set file) = Unit {0}
TypedBy (load file arena index filter starts lengths) = Unit {0}

-- of every setting that is opened
abbrev pub TypedSettings : {Area File : Type 0} → List (Call Area File) → Type 0
TypedSettings [] = Unit {0}
TypedSettings (c ∷ cs) = TypedBy c × TypedSettings cs
