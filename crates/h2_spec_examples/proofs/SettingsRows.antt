-- Settings of the peer, windows at their bounds, and credit (RFC 9113, 5.2, 6.5.2 and 6.9).
use Rattle.std.specs.Prelude.{◌≡◌, ℕ, List, [], ◌∷◌, map, refl, true, false, Some, None, Result, Ok, Err, ℤ, pos, negsuc}
use Rattle.h2_spec.specs.declared.causes.Cause.TheVariants.{EnablePushValue, MaxFrameSizeValue, InitialWindowSizeValue}
use Rattle.h2_spec.specs.declared.errors.FlowFault.{FlowFault}
use Rattle.h2_spec.specs.declared.errors.FlowFault.TheVariants.{BadSetting}
use Rattle.h2_spec.specs.Settings.{initial, initial_local_settings, with_setting, window_change, settings_or}
use Rattle.h2_spec.specs.Window.{given_back, still_owed, is_above_max}

-- a setting and its value, and by how much windows move where it is applied to the first settings, or why it is refused
abbrev applied : List (ℕ × ℕ × Result ℤ FlowFault)
applied =
    -- SETTINGS_INITIAL_WINDOW_SIZE
    (4, 100000, Ok (pos 34465)) ∷
    (4, 0, Ok (negsuc 65534)) ∷
    (4, 2147483647, Ok (pos 2147418112)) ∷
    (4, 2147483648, Err (BadSetting InitialWindowSizeValue)) ∷
    -- SETTINGS_ENABLE_PUSH
    (2, 2, Err (BadSetting EnablePushValue)) ∷
    -- SETTINGS_MAX_FRAME_SIZE
    (5, 16383, Err (BadSetting MaxFrameSizeValue)) ∷
    (5, 16777216, Err (BadSetting MaxFrameSizeValue)) ∷
    (5, 16777215, Ok (pos 0)) ∷
    -- SETTINGS_HEADER_TABLE_SIZE, and an unknown setting
    (1, 0, Ok (pos 0)) ∷
    (7, 9, Ok (pos 0)) ∷ []

settings_move_windows : map (λ (row : ℕ × ℕ × Result ℤ FlowFault). window_change initial (with_setting initial row.0 row.1)) applied ≡ map (λ (row : ℕ × ℕ × Result ℤ FlowFault). row.2) applied
unfolding with_setting
settings_move_windows = refl

-- values that are refused, and an unknown setting
abbrev without_effect : List (ℕ × ℕ)
without_effect = (4, 2147483648) ∷ (2, 2) ∷ (5, 16383) ∷ (5, 16777216) ∷ (7, 9) ∷ []

settings_stay_as_they_are : map (λ (row : ℕ × ℕ). settings_or initial (with_setting initial row.0 row.1)) without_effect ≡ map (λ (row : ℕ × ℕ). initial) without_effect
unfolding with_setting
settings_stay_as_they_are = refl

-- a response has to begin with a size update then (RFC 7541, 4.2)
header_table_size_is_to_be_signalled : with_setting initial 1 0 ≡ Ok (record initial { header_table = 0; size_update_pending = true })
unfolding with_setting
header_table_size_is_to_be_signalled = refl

largest_frame_at_first : initial_local_settings.frame ≡ 16384
largest_frame_at_first = refl

-- ---- windows (6.9.1)

largest_window_is_allowed : is_above_max (pos 2147483647) ≡ false
largest_window_is_allowed = refl

no_larger_window_is_allowed : is_above_max (pos 2147483648) ≡ true
no_larger_window_is_allowed = refl

-- ---- credit, with a threshold of 4: the octets owed, what is given back of them, and what is still owed

abbrev credit : List (ℕ × ℕ)
credit = (3, 3) ∷ (4, 0) ∷ (0, 0) ∷ (5, 0) ∷ []

all_is_given_back_from_the_threshold_on : map (λ (row : ℕ × ℕ). given_back 4 row.0) credit ≡ None ∷ Some 4 ∷ None ∷ Some 5 ∷ []
all_is_given_back_from_the_threshold_on = refl

nothing_is_owed_then : map (λ (row : ℕ × ℕ). still_owed 4 row.0) credit ≡ map (λ (row : ℕ × ℕ). row.1) credit
nothing_is_owed_then = refl
