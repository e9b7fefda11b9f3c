-- The octets of payloads that a text says in hex or as settings.
use Rattle.std.proofs.Common.{◌≡◌, ℕ, List, ◌∷◌, Option, Some, None, option_map, flat_map, refl}
use Rattle.h2_spec.specs.Texts.Assemble.{all_at, instruction_at, number_at, octets_at, payload_at, setting_at}
use Rattle.h2_spec.specs.Texts.Script.{Code, Increment, Instructions, Octets, Pairs, payload_octets, setting_octets}

-- a text of octets in hex
pub payload_hex : (text rest : List ℕ) (form : ℕ) → text ≡ form ∷ rest → form ≡ 120 → option_map Octets (octets_at rest) ≡ payload_at text
unfolding payload_at
payload_hex text rest form is hex = rw (is, hex) refl

-- a text of settings
pub payload_settings : (text rest : List ℕ) (form : ℕ) → text ≡ form ∷ rest → form ≡ 115 → option_map Pairs (all_at setting_at rest) ≡ payload_at text
unfolding payload_at
payload_settings text rest form is settings = rw (is, settings) refl

-- a text of an increment
pub payload_increment : (text rest : List ℕ) (form : ℕ) → text ≡ form ∷ rest → form ≡ 119 → option_map Increment (number_at 2147483647 rest) ≡ payload_at text
unfolding payload_at
payload_increment text rest form is increment = rw (is, increment) refl

-- a text of an error code
pub payload_code : (text rest : List ℕ) (form : ℕ) → text ≡ form ∷ rest → form ≡ 99 → option_map Code (number_at 4294967295 rest) ≡ payload_at text
unfolding payload_at
payload_code text rest form is code = rw (is, code) refl

-- a text of instructions
pub payload_instructions : (text rest : List ℕ) (form : ℕ) → text ≡ form ∷ rest → form ≡ 104 → option_map Instructions (all_at instruction_at rest) ≡ payload_at text
unfolding payload_at
payload_instructions text rest form is instructions = rw (is, instructions) refl

-- octets are what they say
pub octets_said : (read : Option (List ℕ)) → read ≡ option_map payload_octets (option_map Octets read)
octets_said None = refl
octets_said (Some octets) = refl

-- each setting is six octets
pub settings_said : (read : Option (List (ℕ × ℕ))) → option_map (flat_map setting_octets) read ≡ option_map payload_octets (option_map Pairs read)
settings_said None = refl
settings_said (Some pairs) = refl
