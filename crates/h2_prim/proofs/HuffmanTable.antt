-- The program's arrays are the code of Appendix B: computed over the whole arrays.
use Rattle.std.proofs.Common.{◌≡◌, ℕ, ◌+◌, ◌/◌, ◌%◌, ◌^◌, ◌<◌, ◌≤◌, Bool, true, false, ◌&&◌, ◌||◌, not, eqb, eqb-true, ltb, ltb-false, lt-ltb, le-ltb, leb, List, [], ◌∷◌, ◌++◌, cond, length, get_or, map, take, drop, refl, ap, sym, ◌∙◌, arith, append_assoc, length-drop}
use Rattle.std.proofs.Math.ListN.{get_or-map}
use Rattle.std.proofs.lemmas.List.{append-nil, take-append-drop}
use Rattle.std.proofs.lemmas.Bool.{leb-true}
use borrow.Author.Tests.{ltb-true}
use Rattle.h2_spec.specs.Hpack.HuffmanCode.{bits_of, code}
use Rattle.h2_spec.specs.Hpack.Huffman.{codes, ones, are_few_ones, IsText}
use Rattle.h2_spec.proofs.Computed.{and-left, and-right, same, same-is, begins, begins-is, all_from, all-at, all_below, below-at, both_from, both-at}
use Rattle.h2_spec.proofs.HuffmanLaws.{NoneBegins, front_of_code, few-ones}
use Rattle.h2_prim.specs.States.{places, path_of, IsRow, emitted, Leads}
use Rattle.h2_prim.specs.declared.tables.TheConstants.{LENGTHS, CODES, MOVES}

-- ---- the arrays for writing

code_right : ℕ → ℕ → ℕ → Bool
code_right s len number = same (bits_of len number) (code s) && leb 5 len && leb len 30 && ltb number (2 ^ len)

codes_right : both_from code_right 0 LENGTHS CODES ≡ true
unfolding code_right bits_of code
codes_right = refl

-- what the arrays say of an octet
pub record IsCode (s len number : ℕ) : Type 0 where
  pub spelled : bits_of len number ≡ code s
  pub long : 5 ≤ len
  pub short : len ≤ 30
  pub small : number < 2 ^ len

code_decides : (s len number : ℕ) → code_right s len number ≡ true → IsCode s len number
unfolding code_right
code_decides s len number h =
    let three = and-left (same (bits_of len number) (code s) && leb 5 len && leb len 30) (ltb number (2 ^ len)) h in
    let two = and-left (same (bits_of len number) (code s) && leb 5 len) (leb len 30) three in
    record {
      spelled = same-is (bits_of len number) (code s) (and-left (same (bits_of len number) (code s)) (leb 5 len) two);
      long = leb-true 5 len (and-right (same (bits_of len number) (code s)) (leb 5 len) two);
      short = leb-true len 30 (and-right (same (bits_of len number) (code s) && leb 5 len) (leb len 30) three);
      small = ltb-true number (2 ^ len) (and-right (same (bits_of len number) (code s) && leb 5 len && leb len 30) (ltb number (2 ^ len)) h);
    }

pub code_at : (s : ℕ) → s < 256 → IsCode s (get_or LENGTHS s 0) (get_or CODES s 0)
code_at s h = code_decides s (get_or LENGTHS s 0) (get_or CODES s 0) (both-at code_right LENGTHS CODES s 0 0 codes_right h)

-- ---- the states

place_right : ℕ → Bool
place_right s = let place = get_or places s (0, 0) in ltb place.0 257 && ltb place.1 (length (code place.0))

places_right : all_below place_right 256 ≡ true
unfolding place_right places code
places_right = refl

-- no code begins the bits of a state
pub path_begins : (s : ℕ) → s < 256 → NoneBegins (path_of s)
unfolding path_of place_right
path_begins s h =
    let place = get_or places s (0, 0) in
    let right = below-at place_right 256 s places_right h in
    let symbol : place.0 < 257 = ltb-true _ _ (and-left (ltb place.0 257) (ltb place.1 (length (code place.0))) right) in
    let inside : place.1 < length (code place.0) = ltb-true _ _ (and-right (ltb place.0 257) (ltb place.1 (length (code place.0))) right) in
    front_of_code place.0 (take place.1 (code place.0)) (drop place.1 (code place.0)) symbol (sym (take-append-drop place.1 (code place.0))) (omega (arith, length-drop place.1 (code place.0), inside))

ones_right : all_below (λ s. same (path_of s) (ones s)) 8 ≡ true
unfolding path_of places code
ones_right = refl

-- the first states are those of a few ones
pub path_ones : (s : ℕ) → s < 8 → path_of s ≡ ones s
path_ones s h = same-is (path_of s) (ones s) (below-at (λ n. same (path_of n) (ones n)) 8 s ones_right h)

others_right : all_below (λ s. ltb s 8 || not (are_few_ones (path_of s))) 256 ≡ true
unfolding path_of places code
others_right = refl

either : (a b : Bool) → a ≡ false → b ≡ true → (a || not b) ≡ true → ⊥
either true b e f h = absurd (let w : true ≡ false = e in cc)
either false true e f h = absurd (let w : false ≡ true = h in cc)
either false false e f h = absurd (let w : false ≡ true = f in cc)

-- and no others are
pub path_others : (s k : ℕ) → 8 ≤ s → s < 256 → k ≤ 7 → path_of s ≡ ones k → ⊥
path_others s k large h few e =
    either (ltb s 8) (are_few_ones (path_of s)) (le-ltb s 8 large) (ap are_few_ones e ∙ few-ones k few) (below-at (λ n. ltb n 8 || not (are_few_ones (path_of n))) 256 s others_right h)

pub path_end : path_of 256 ≡ code 256
unfolding path_of places code
path_end = refl

emitted_octet : (symbol : ℕ) → IsText (emitted symbol)
emitted_octet symbol = at (ltb symbol 256) refl
  where
    at : (t : Bool) → ltb symbol 256 ≡ t → IsText (cond t [] (symbol % 256 ∷ []))
    at true e = tt
    at false e = (omega arith, tt)

pub path_start : path_of 0 ≡ []
unfolding path_of places code
path_start = refl

-- ---- the moves

-- the bits of all states, so that they are computed once
paths : List (List Bool)
unfolding places code
paths = map (λ (place : ℕ × ℕ). take place.1 (code place.0)) places

path_in : (s : ℕ) → get_or paths s [] ≡ path_of s
unfolding paths path_of
path_in s = get_or-map (λ (place : ℕ × ℕ). take place.1 (code place.0)) places s (0, 0)

-- the bits are these, or from the end of a string on begin with these
lands : Bool → List Bool → List Bool → Bool
lands true bs found = same bs found
lands false bs found = begins bs found

goes : List (List Bool) → Bool → ℕ → ℕ → ℕ → ℕ → Bool
goes ps true s nibble next symbol = lands (ltb next 256) (get_or ps s [] ++ bits_of 4 nibble) (codes (emitted symbol) ++ get_or ps next [])
goes ps false s nibble next symbol = eqb next 256 && eqb symbol 0

right : List (List Bool) → ℕ → ℕ → ℕ → Bool
right ps k row symbol = eqb (row % 16) 0 && leb row 4096 && ltb symbol 512 && goes ps (ltb (k / 16) 256) (k / 16) (k % 16) (row / 16) symbol

move_right : List (List Bool) → ℕ → ℕ → Bool
move_right ps k move = right ps k (move / 65536) (move % 65536)

all_right : List (List Bool) → Bool
all_right ps = all_from (move_right ps) 0 MOVES

moves_right : all_right paths ≡ true
unfolding all_right move_right right goes lands paths places codes code bits_of
moves_right = refl

lands-is : (t : Bool) (bs found : List Bool) → lands t bs found ≡ true → (rest : List Bool) × (t ≡ true → rest ≡ []) × (bs ≡ found ++ rest)
unfolding lands
lands-is true bs found h = ([], λ e. refl, same-is bs found h ∙ sym (append-nil found))
lands-is false bs found h = let b = begins-is bs found h in (b.0, λ e. absurd (let w : false ≡ true = e in cc), b.1)

-- what the arrays say of a move
pub record IsMove (s nibble row symbol : ℕ) : Type 0 where
  pub is_row : IsRow row
  pub symbol_small : symbol < 512
  pub leads : Leads s (bits_of 4 nibble) symbol (row / 16)

goes-is : (t : Bool) (s nibble next symbol : ℕ) → ltb s 256 ≡ t → s ≤ 256 → goes paths t s nibble next symbol ≡ true → Leads s (bits_of 4 nibble) symbol next
unfolding goes codes
goes-is true s nibble next symbol e few h = λ rest ended.
    let bits : get_or paths s [] ++ bits_of 4 nibble ≡ path_of s ++ bits_of 4 nibble = ap (λ p. p ++ bits_of 4 nibble) (path_in s) in
    let found : codes (emitted symbol) ++ get_or paths next [] ≡ codes (emitted symbol) ++ path_of next = ap (λ p. codes (emitted symbol) ++ p) (path_in next) in
    let there : lands (ltb next 256) (path_of s ++ bits_of 4 nibble) (codes (emitted symbol) ++ path_of next) ≡ true = ap (λ b. lands (ltb next 256) b (codes (emitted symbol) ++ path_of next)) (sym bits) ∙ ap (λ f. lands (ltb next 256) (get_or paths s [] ++ bits_of 4 nibble) f) (sym found) ∙ h in
    let l = lands-is (ltb next 256) (path_of s ++ bits_of 4 nibble) (codes (emitted symbol) ++ path_of next) there in
    let none : rest ≡ [] = ended (ltb-true s 256 e) in
    rw none (record {
      octets = emitted_octet symbol;
      rest = l.0;
      ended = λ small. l.1 (lt-ltb next 256 small);
      read = l.2 ∙ append_assoc (codes (emitted symbol)) (path_of next) l.0;
    })
goes-is false s nibble next symbol e few h = λ rest ended.
    let state : s ≡ 256 = omega (arith, few, ltb-false s 256 e) in
    let stays : next ≡ 256 = eqb-true next 256 (and-left (eqb next 256) (eqb symbol 0) h) in
    let nothing : symbol ≡ 0 = eqb-true symbol 0 (and-right (eqb next 256) (eqb symbol 0) h) in
    rw (state, stays, nothing) (record { octets = tt; rest = rest ++ bits_of 4 nibble; ended = λ small. absurd (omega arith); read = refl })

move_decides : (k s nibble row symbol : ℕ) → k / 16 ≡ s → k % 16 ≡ nibble → s ≤ 256 → right paths k row symbol ≡ true → IsMove s nibble row symbol
unfolding right
move_decides k s nibble row symbol q r few h =
    let found = goes paths (ltb (k / 16) 256) (k / 16) (k % 16) (row / 16) symbol in
    let three = and-left (eqb (row % 16) 0 && leb row 4096 && ltb symbol 512) found h in
    let two = and-left (eqb (row % 16) 0 && leb row 4096) (ltb symbol 512) three in
    record {
      is_row = (eqb-true (row % 16) 0 (and-left (eqb (row % 16) 0) (leb row 4096) two), leb-true row 4096 (and-right (eqb (row % 16) 0) (leb row 4096) two));
      symbol_small = ltb-true symbol 512 (and-right (eqb (row % 16) 0 && leb row 4096) (ltb symbol 512) three);
      leads = rw (← q, ← r) (goes-is (ltb (k / 16) 256) (k / 16) (k % 16) (row / 16) symbol refl (omega arith) (and-right (eqb (row % 16) 0 && leb row 4096 && ltb symbol 512) found h));
    }

pub move_at : (row nibble : ℕ) → IsRow row → nibble < 16 → let move = get_or MOVES (row + nibble) 0 in IsMove (row / 16) nibble (move / 65536) (move % 65536)
unfolding all_right move_right
move_at row nibble at small =
    let k = row + nibble in
    let move = get_or MOVES k 0 in
    move_decides k (row / 16) nibble (move / 65536) (move % 65536) (omega (arith, at.0, at.1)) (omega (arith, at.0, at.1)) (omega (arith, at.1)) (all-at (move_right paths) MOVES k 0 moves_right (omega (arith, at.1)))
