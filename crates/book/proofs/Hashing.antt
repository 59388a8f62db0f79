-- Where equal keys carry equal hashes, one function gives each key's hash. Assumes nothing.
use mathlib.Core.Path.{◌≡◌, refl, sym, ap, ◌∙◌}
use mathlib.Core.Bool.{Bool, true, false, cond}
use mathlib.Core.List.Memᴰ
use mathlib.Core.List.{List, [], ◌∷◌, Memᴰ}
use mathlib.Core.Logic.{◌⊎◌, inl, inr}
use Prim.Native.Nat.{ℕ, ◌^◌, ◌<◌}
use native.Mathlib.Omega.{arith}
use Rattle.index.proofs.Table.{true≢false}
use Rattle.book.specs.Book.{same_key}
use Rattle.book.specs.Calls.{Call, opening, push, finish, lookup, peek, clear, probe, walk, stats, reopen, reuse, copy, refinish, write, load}
use Rattle.book.specs.Premise.{carried, EqualHashes, Hashes64, TypedSettings}
use Rattle.book.proofs.Keys.{key_true, key_refl}
use Rattle.book.proofs.Steps.{Hashed}

-- the hash of the first of the pairs that has the key; 0 where none has
hash_in : List (List ℕ × ℕ) → List ℕ → ℕ
hash_in [] key = 0
hash_in (p ∷ l) key = cond (same_key key p.0) p.1 (hash_in l key)

hash_or : (l : List (List ℕ × ℕ)) (key : List ℕ) → Memᴰ (key, hash_in l key) l ⊎ (((h : ℕ) → ¬ Memᴰ (key, h) l) × (hash_in l key ≡ 0))
unfolding hash_in
hash_or [] key = inr (λ h. Memᴰ.not-nil, refl)
hash_or (p ∷ l) key = go (same_key key p.0) refl (hash_or l key)
  where
    go : (b : Bool) → same_key key p.0 ≡ b → Memᴰ (key, hash_in l key) l ⊎ (((h : ℕ) → ¬ Memᴰ (key, h) l) × (hash_in l key ≡ 0))
        → Memᴰ (key, cond b p.1 (hash_in l key)) (p ∷ l) ⊎ (((h : ℕ) → ¬ Memᴰ (key, h) (p ∷ l)) × (cond b p.1 (hash_in l key) ≡ 0))
    go true e r = inl (Memᴰ.head (λ i. (key_true key p.0 e i, p.1)))
    go false e (inl y) = inl (Memᴰ.tail y)
    go false e (inr y) = inr (λ h z. other h (Memᴰ.cases_cons z), y.1)
      where
        other : (h : ℕ) → ((key, h) ≡ p) ⊎ Memᴰ (key, h) l → ⊥
        other h (inl q) = true≢false (sym (ap (λ (u : List ℕ × ℕ). same_key key u.0) (sym q) ∙ key_refl key) ∙ e)
        other h (inr z) = y.0 h z

-- every call carries the hash that it gives
abbrev pub AllHashed : (List ℕ → ℕ) → List (Call (List ℕ) ℕ) → Type 0
AllHashed H [] = Unit {0}
AllHashed H (c ∷ cs) = Hashed H c × AllHashed H cs

all_hashed : (H : List ℕ → ℕ) (cs : List (Call (List ℕ) ℕ)) → ((key : List ℕ) (h : ℕ) → Memᴰ (key, h) (carried cs) → (h ≡ H key) × (h < 2 ^ 64)) → TypedSettings cs
    → AllHashed H cs
all_hashed H [] f ts = tt
all_hashed H (opening config records arena index filter starts lengths ∷ cs) f ts = (ts.0, all_hashed H cs f ts.1)
all_hashed H (push key value h ttl ∷ cs) f ts = (f key h (Memᴰ.head refl), all_hashed H cs (λ j g z. f j g (Memᴰ.tail z)) ts.1)
all_hashed H (finish target scratch ∷ cs) f ts = (tt, all_hashed H cs f ts.1)
all_hashed H (lookup set key h tick ∷ cs) f ts = (f key h (Memᴰ.head refl), all_hashed H cs (λ j g z. f j g (Memᴰ.tail z)) ts.1)
all_hashed H (peek set key h tick ∷ cs) f ts = (f key h (Memᴰ.head refl), all_hashed H cs (λ j g z. f j g (Memᴰ.tail z)) ts.1)
all_hashed H (clear set key h ∷ cs) f ts = (f key h (Memᴰ.head refl), all_hashed H cs (λ j g z. f j g (Memᴰ.tail z)) ts.1)
all_hashed H (probe set key h tick ∷ cs) f ts = (tt, all_hashed H cs f ts.1)
all_hashed H (walk set slot tick ∷ cs) f ts = (tt, all_hashed H cs f ts.1)
all_hashed H (stats set ∷ cs) f ts = (tt, all_hashed H cs f ts.1)
all_hashed H (reopen records copied flags tick index filter starts lengths ∷ cs) f ts = (tt, all_hashed H cs f ts.1)
all_hashed H (reuse key value h location header ∷ cs) f ts = (f key h (Memᴰ.head refl), all_hashed H cs (λ j g z. f j g (Memᴰ.tail z)) ts.1)
all_hashed H (copy key value h ttl ∷ cs) f ts = (f key h (Memᴰ.head refl), all_hashed H cs (λ j g z. f j g (Memᴰ.tail z)) ts.1)
all_hashed H (refinish scratch ∷ cs) f ts = (tt, all_hashed H cs f ts.1)
all_hashed H (write set file ∷ cs) f ts = (tt, all_hashed H cs f ts.1)
all_hashed H (load i arena index filter starts lengths ∷ cs) f ts = (tt, all_hashed H cs f ts.1)

pub hashed : (cs : List (Call (List ℕ) ℕ)) → EqualHashes cs → Hashes64 cs → TypedSettings cs → (H : List ℕ → ℕ) × ((key : List ℕ) → H key < 2 ^ 64) × AllHashed H cs
hashed cs one small typed = (hash_in (carried cs), below, all_hashed (hash_in (carried cs)) cs (λ key h z. (own key h z, small key h z)) typed)
  where
    below : (key : List ℕ) → hash_in (carried cs) key < 2 ^ 64
    below key =
        elim (hash_or (carried cs) key) as (λ _. hash_in (carried cs) key < 2 ^ 64)
        [ inl y ↦ small key (hash_in (carried cs) key) y | inr y ↦ (let z : hash_in (carried cs) key ≡ 0 = y.1 in omega (arith, z)) ]

    own : (key : List ℕ) (h : ℕ) → Memᴰ (key, h) (carried cs) → h ≡ hash_in (carried cs) key
    own key h z = elim (hash_or (carried cs) key) as (λ _. h ≡ hash_in (carried cs) key) [ inl y ↦ one key h (hash_in (carried cs) key) z y | inr y ↦ absurd (y.0 h z) ]
