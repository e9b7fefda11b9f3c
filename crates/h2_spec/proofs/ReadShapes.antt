-- What is read has in its strings parts of the octets: a fact of octets that their parts keep is one of the strings.
use Rattle.std.proofs.Common.{ℕ, zero, suc, Bool, true, false, List, [], ◌∷◌, ◌<◌, cond, length, take, drop, arith, nat_le}
use Rattle.h2_spec.specs.Hpack.Instruction.{Shape, Indexed, Update, Literal, Mode, NameRef, Ref, Named, Str, instr_at, instr_by, string_at, octets_at, read_then, read_past, name_by, literal_at, value_at, mode_prefix}
use Rattle.h2_spec.specs.Hpack.Integer.{int_at}
use Rattle.h2_spec.specs.Read.{Read, Whole, More, TooLong, read_map}

abbrev pub OnRead : {A : Type 0} → (A → Type 0) → Read A → Type 0
OnRead P (Whole a used) = P a
OnRead P More = Unit {0}
OnRead P TooLong = Unit {0}

read_map-on : {A B : Type 0} (P : A → Type 0) (Q : B → Type 0) (f : A → B) → ((a : A) → P a → Q (f a)) → (r : Read A) → OnRead P r → OnRead Q (read_map f r)
read_map-on P Q f h (Whole a used) p = h a p
read_map-on P Q f h More p = tt
read_map-on P Q f h TooLong p = tt

read_past-on : {A : Type 0} (P : A → Type 0) (used : ℕ) (r : Read A) → OnRead P r → OnRead P (read_past used r)
read_past-on P used (Whole a more) h = h
read_past-on P used More h = tt
read_past-on P used TooLong h = tt

abbrev IsAny : {A : Type 0} → A → Type 0
IsAny a = Unit {0}

any : {A : Type 0} (r : Read A) → OnRead IsAny r
any (Whole a used) = tt
any More = tt
any TooLong = tt

-- the octets of the string have the fact
abbrev pub HasOctets : (List ℕ → Type 0) → Str → Type 0
HasOctets K s = K s.octets

-- an index above 0, or such a string
abbrev pub IsWholeName : (List ℕ → Type 0) → NameRef Str → Type 0
IsWholeName K (Ref i) = 0 < i
IsWholeName K (Named s) = K s.octets

-- such a name and such a value
abbrev pub IsWholeShape : (List ℕ → Type 0) → Shape → Type 0
IsWholeShape K (Indexed i) = Unit {0}
IsWholeShape K (Update n) = Unit {0}
IsWholeShape K (Literal mode name value) = IsWholeName K name × K value.octets

module _ (K : List ℕ → Type 0) (below : (n : ℕ) (xs : List ℕ) → K xs → K (take n xs)) (behind : (n : ℕ) (xs : List ℕ) → K xs → K (drop n xs)) where
  read_then-on : {A B : Type 0} (P : A → Type 0) (Q : B → Type 0) (xs : List ℕ) (r : Read A) (follow : A → List ℕ → Read B) → K xs → OnRead P r
      → ((a : A) (ys : List ℕ) → P a → K ys → OnRead Q (follow a ys)) → OnRead Q (read_then xs r follow)
  read_then-on P Q xs (Whole a used) follow h p k = read_past-on Q used (follow a (drop used xs)) (k a (drop used xs) p (behind used xs h))
  read_then-on P Q xs More follow h p k = tt
  read_then-on P Q xs TooLong follow h p k = tt

  octets_whole : (huffman : Bool) (n : ℕ) (xs : List ℕ) → K xs → OnRead (HasOctets K) (octets_at huffman n xs)
  octets_whole huffman n xs h = go (nat_le n (length xs))
    where
      go : (b : Bool) → OnRead (HasOctets K) (cond b (Whole (record { huffman = huffman; octets = take n xs }) n) More)
      go true = below n xs h
      go false = tt

  string_whole : (xs : List ℕ) → K xs → OnRead (HasOctets K) (string_at xs)
  unfolding string_at
  string_whole [] h = tt
  string_whole (o ∷ xs) h = read_then-on IsAny (HasOctets K) (o ∷ xs) (int_at 7 (o ∷ xs)) (octets_at (nat_le 128 o)) h (any (int_at 7 (o ∷ xs))) (λ n ys u k. octets_whole (nat_le 128 o) n ys k)

  name_whole : (i : ℕ) (xs : List ℕ) → K xs → OnRead (IsWholeName K) (name_by i xs)
  name_whole zero xs h = read_map-on (HasOctets K) (IsWholeName K) Named (λ s k. k) (string_at xs) (string_whole xs h)
  name_whole (suc i) xs h = omega arith

  literal_whole : (mode : Mode) (xs : List ℕ) → K xs → OnRead (IsWholeShape K) (literal_at mode xs)
  literal_whole mode xs h =
      let index = int_at (mode_prefix mode) xs in
      read_then-on (IsWholeName K) (IsWholeShape K) xs (read_then xs index name_by) (value_at mode) h
      (read_then-on IsAny (IsWholeName K) xs index name_by h (any index) (λ i ys u k. name_whole i ys k))
      (λ name ys k more. read_map-on (HasOctets K) (IsWholeShape K) (Literal mode name) (λ s e. (k, e)) (string_at ys) (string_whole ys more))

  shape_whole : (o : ℕ) (xs : List ℕ) → K xs → OnRead (IsWholeShape K) (instr_by o xs)
  shape_whole o xs h = go (nat_le 128 o) (nat_le 64 o) (nat_le 32 o) (nat_le 16 o)
    where
      go : (a b c d : Bool) → OnRead (IsWholeShape K) (cond a (read_map Indexed (int_at 7 xs)) (cond b (literal_at Mode.IncrementalIndexing xs) (cond c (read_map Update (int_at 5 xs)) (cond d (literal_at Mode.NeverIndexed xs) (literal_at Mode.WithoutIndexing xs)))))
      go true b c d = read_map-on IsAny (IsWholeShape K) Indexed (λ i u. tt) (int_at 7 xs) (any (int_at 7 xs))
      go false true c d = literal_whole Mode.IncrementalIndexing xs h
      go false false true d = read_map-on IsAny (IsWholeShape K) Update (λ i u. tt) (int_at 5 xs) (any (int_at 5 xs))
      go false false false true = literal_whole Mode.NeverIndexed xs h
      go false false false false = literal_whole Mode.WithoutIndexing xs h

  -- the shape at the front has in its strings parts of the octets, and an index above 0 where it has one
  pub first_whole : (xs : List ℕ) → K xs → OnRead (IsWholeShape K) (instr_at xs)
  unfolding instr_at
  first_whole [] h = tt
  first_whole (o ∷ xs) h = shape_whole o (o ∷ xs) h
