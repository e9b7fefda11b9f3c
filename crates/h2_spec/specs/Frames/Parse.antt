-- Front elements off the front of octets, one after another, as long as there are any.
use Rattle.std.specs.Prelude.{ℕ, zero, suc, List, [], ◌∷◌, length, drop}

-- what is at the front of octets in a state: nothing whole, or a thing, the state after it, and how many octets
-- it takes
pub data Front (S E : Type 0) : Type 0 where
  Stop : Front S E
  One : E → S → ℕ → Front S E

-- the elements taken, the state after them, and the octets that are left
pub record Parsed (S E : Type 0) : Type 0 where
  pub elements : List E
  pub state : S
  pub rest : List ℕ

-- an element before those that follow
abbrev pub after_one : {S E : Type 0} → E → Parsed S E → Parsed S E
after_one e t = record { elements = e ∷ t.elements; state = t.state; rest = t.rest }

-- the first thing, if there is one, and then what follows it
abbrev pub parse_first : {S E : Type 0} → S → List ℕ → Front S E → (S → List ℕ → Parsed S E) → Parsed S E
parse_first s b Stop follow = record { elements = []; state = s; rest = b }
parse_first s b (One e t used) follow = after_one e (follow t (drop used b))

-- at most this many elements
abbrev pub parse_upto : {S E : Type 0} → (S → List ℕ → Front S E) → ℕ → S → List ℕ → Parsed S E
parse_upto next zero s b = record { elements = []; state = s; rest = b }
parse_upto next (suc more) s b = parse_first s b (next s b) (λ t rest. parse_upto next more t rest)

-- all elements: each takes an octet or more
unfoldable pub parse_all : {S E : Type 0} → (S → List ℕ → Front S E) → S → List ℕ → Parsed S E
parse_all next s b = parse_upto next (length b) s b
