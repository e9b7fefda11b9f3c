-- What clap's answer says of the plan.
use Rattle.std.proofs.Common.{◌≡◌, ◌∙◌, ℕ, Bool, true, List, [], ◌∷◌, Option, Some, None, option_map, inl, inr, refl, sym, ap, subst}
use Rattle.clap.specs.Words.{App, HasKind, HasMatchesOf, IsAmong, Kinds, Row, Text, fault_of, is_simple, is_simple_and_free, kind_of, subcommand_name_of, subcommand_of, subcommand_rows, subcommand_rows_of}
use Rattle.h2_spec.specs.declared.connection.Config.{Config}
use Rattle.clap.specs.declared.ArgMatches.{ArgMatches}
use Rattle.clap.specs.declared.ArgMatches.TheViews.{out-ArgMatches, out-SubCommand}
use Rattle.std.specs.Box.{box_value}
use Rattle.clap.specs.declared.Error.{Error}
use Rattle.clap.specs.declared.error.ErrorKind.{ErrorKind}
use Rattle.clap.specs.declared.error.ErrorKind.TheVariants.{OutOfMemory}
use Rattle.h2_cmd_args.specs.Grammar.{Asked, BookAsked, batch, play, asked_at, asked_by, bench_app, asked_of, devices_at, devices_found, unless_refused, with_offline}
use Rattle.h2_cmd_args.specs.Plans.{Refuses}
use Rattle.h2_cmd_args.specs.declared.command.Refusal.{Refusal}
use Rattle.h2_cmd_args.specs.declared.command.Refusal.TheVariants.{Words, NoMemory}

pub bench-simple : is_simple bench_app ≡ true
unfolding bench_app with_offline
bench-simple = refl

pub bench-free : is_simple_and_free bench_app ≡ true
unfolding bench_app with_offline
bench-free = refl

taken : (words : List Text) → fault_of bench_app words ≡ [] → asked_of words ≡ asked_at (subcommand_of bench_app words)
unfolding asked_of
taken words e = rw e refl

none_of : (ks : Kinds) (k : ErrorKind) (asked : Option Asked) → IsAmong k ks → unless_refused ks asked ≡ None
none_of [] k asked h = absurd h
none_of (x ∷ xs) k asked h = refl

refused : (words : List Text) (k : ErrorKind) → IsAmong k (fault_of bench_app words) → asked_of words ≡ None
unfolding asked_of
refused words k h = none_of (fault_of bench_app words) k (asked_at (subcommand_of bench_app words)) h

pub rows_found : (a : App) (texts words : List Text) (m : ArgMatches) → a ≡ bench_app → texts ≡ words → HasMatchesOf a texts m
    → subcommand_rows_of m ≡ subcommand_of bench_app words
rows_found a texts words m app same matches = rw (← app, ← same) ((matches (rw app bench-simple)).1)

pub clap_took : (a : App) (texts words : List Text) (m : ArgMatches) → a ≡ bench_app → texts ≡ words → HasMatchesOf a texts m
    → (is_simple_and_free a ≡ true → fault_of a texts ≡ []) → asked_of words ≡ asked_at (subcommand_rows_of m)
clap_took a texts words m app same matches kinds =
    let none : fault_of bench_app words ≡ [] = rw (← app, ← same) (kinds (rw app bench-free)) in
    let rows = rows_found a texts words m app same matches in
    taken words none ∙ ap asked_at (sym rows)

pub clap_refused : (a : App) (texts words : List Text) (e : Error) → a ≡ bench_app → texts ≡ words
    → (is_simple_and_free a ≡ true → HasKind (fault_of a texts) e) → (kind_of e ≡ OutOfMemory → ⊥) → asked_of words ≡ None
clap_refused a texts words e app same kinds other =
    let h : HasKind (fault_of bench_app words) e = subst (λ b. HasKind (fault_of b words) e) app (subst (λ t. HasKind (fault_of a t) e) same (kinds (rw app bench-free))) in
    elim h [
      | inl memory ↦ absurd (other memory)
      | inr among ↦ refused words (kind_of e) among
    ]

pub not_entered : (o : Option (Text × List Row)) → None ≡ option_map (λ p. p.1) o → asked_at o ≡ None
not_entered None h = refl
not_entered (Some p) h = cc

name_entered : (m : ArgMatches) → subcommand_name_of m ≡ option_map (λ p. p.0) (subcommand_rows_of m)
name_entered m = elim ((out-ArgMatches m).subcommand) as (λ s. option_map (λ b. (out-SubCommand (box_value b)).name.now) s ≡ option_map (λ p. p.0) (subcommand_rows s)) [
  | None ↦ refl
  | Some b ↦ refl
]

both_known : (o : Option (Text × List Row)) (name : Text) (rows : List Row) → Some name ≡ option_map (λ p. p.0) o
    → Some rows ≡ option_map (λ p. p.1) o → asked_at o ≡ asked_by name rows
both_known None name rows n r = cc
both_known (Some p) name rows n r =
    let same_name : name ≡ p.0 = cc in
    let same_rows : rows ≡ p.1 = cc in
    rw (same_name, same_rows) refl

pub entered : (m : ArgMatches) (name : Text) (rows : List Row) → Some name ≡ subcommand_name_of m
    → Some rows ≡ option_map (λ p. p.1) (subcommand_rows_of m) → asked_at (subcommand_rows_of m) ≡ asked_by name rows
entered m name rows named found = both_known (subcommand_rows_of m) name rows (named ∙ name_entered m) found

pub printed_refuses : (a : App) (texts words : List Text) (e : Error) (r : Refusal) → a ≡ bench_app → texts ≡ words
    → (is_simple_and_free a ≡ true → HasKind (fault_of a texts) e) → (kind_of e ≡ OutOfMemory → r ≡ NoMemory) → Refuses (asked_of words) r
printed_refuses a texts words e NoMemory app same kinds memory = tt
printed_refuses a texts words e (Words text) app same kinds memory =
    clap_refused a texts words e app same kinds (λ k. let differ : Words text ≡ NoMemory = memory k in cc)

pub plays-alike : (a b : Config) (m n : ℕ) (d e : Bool) (r s : Bool) (x y : BookAsked) → a ≡ b → m ≡ n → d ≡ e → r ≡ s → x ≡ y
    → Some (batch (play a m d r x)) ≡ Some (batch (play b n e s y))
plays-alike a b m n d e r s x y ab mn de rs xy = rw (ab, mn, de, rs, xy) refl

pub devices_entered : (o : Option (Text × List Row)) (rows : List Row) → Some rows ≡ option_map (λ p. p.1) o → devices_found o ≡ Some (devices_at rows)
devices_entered None rows h = cc
devices_entered (Some p) rows h =
    let same : rows ≡ p.1 = cc in
    rw same refl
