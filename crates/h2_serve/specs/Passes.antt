-- The laws of `Driven`: what is printed for pieces, one after another, is what is printed for all of their octets.
use Rattle.std.proofs.Common.{◌≡◌, ◌∙◌, ℕ, Bool, true, false, List, [], ◌∷◌, ◌++◌, ◌==◌, Option, Some, None, refl, sym, ap, subst, append_assoc}
use Rattle.std.proofs.lemmas.Bool.{false≢true}
use Rattle.std.proofs.lemmas.List.{append-nil}
use Rattle.std.proofs.KnownBytes.{Appends-trans}
use Rattle.std.specs.Io.KnownBytes.{Appends}
use Rattle.h2_conn.specs.Connection.{Connection}
use Rattle.h2_explain.specs.Explains.{IsExplanation}
use Rattle.h2_explain.specs.declared.run_explainer.RunExplainer.{RunExplainer}
use Rattle.h2_serve.specs.Faults.{failed_by}
use Rattle.h2_serve.specs.Serves.{Gains, Grew}
use Rattle.h2_serve.specs.Numbered.{Grows, PrintsPrefixed, fresh_after, prefixed, prefixed_octet}
use Rattle.h2_serve.specs.ExplainedConns.{GoesOn, IsExplained}
use Rattle.h2_serve.specs.declared.fault.TextFault.{TextFault}

pub prefixed-append : (p : List ℕ) (json fresh : Bool) (a b : List ℕ)
    → prefixed p json fresh (a ++ b) ≡ prefixed p json fresh a ++ prefixed p json (fresh_after fresh a) b
prefixed-append p json fresh [] b = refl
prefixed-append p json fresh (c ∷ a) b =
    ap (λ (t : List ℕ). prefixed_octet p json fresh c ++ t) (prefixed-append p json (c == 10) a b)
    ∙ sym (append_assoc (prefixed_octet p json fresh c) (prefixed p json (c == 10) a) (prefixed p json (fresh_after (c == 10) a) b))

pub fresh-append : (fresh : Bool) (a b : List ℕ) → fresh_after fresh (a ++ b) ≡ fresh_after (fresh_after fresh a) b
fresh-append fresh [] b = refl
fresh-append fresh (c ∷ a) b = fresh-append (c == 10) a b

appends-none : (known : Option (List ℕ)) → Appends known known []
appends-none None = tt
appends-none (Some xs) = sym (append-nil xs)

-- nothing was printed
pub prints-none : (p : List ℕ) (json fresh : Bool) (fault : Option TextFault) (known : Option (List ℕ))
    → PrintsPrefixed p json fresh fault known [] fresh fault known
prints-none p json fresh fault known e = (e, refl, appends-none known)

-- a text was printed, and then another
pub prints-more : (p : List ℕ) (json f g h : Bool) (x y z : Option TextFault) (k l m : Option (List ℕ)) (a b : List ℕ)
    → PrintsPrefixed p json f x k a g y l → PrintsPrefixed p json g y l b h z m → PrintsPrefixed p json f x k (a ++ b) h z m
prints-more p json f g h x y z k l m a b one two e =
    let second = two e in
    let first = one second.0 in (
      first.0,
      second.1 ∙ ap (λ (k : Bool). fresh_after k b) first.1 ∙ sym (fresh-append f a b),
      subst (λ (t : List ℕ). Appends k m t) (sym (prefixed-append p json f a b))
          (Appends-trans k l m (prefixed p json f a) (prefixed p json (fresh_after f a) b) first.2
          (subst (λ (n : Bool). Appends l m (prefixed p json n b)) first.1 second.2)),
    )

-- the same, where the second has the same prefix
pub prints-then : (p q : List ℕ) (json other f g h : Bool) (x y z : Option TextFault) (k l m : Option (List ℕ)) (a b : List ℕ)
    → q ≡ p → other ≡ json → PrintsPrefixed p json f x k a g y l → PrintsPrefixed q other g y l b h z m
    → PrintsPrefixed p json f x k (a ++ b) h z m
prints-then p q json other f g h x y z k l m a b same also one two =
    prints-more p json f g h x y z k l m a b one
    (subst (λ (r : List ℕ). PrintsPrefixed r json g y l b h z m) same
    (subst (λ (j : Bool). PrintsPrefixed q j g y l b h z m) also two))

-- an output that is as it was, gained nothing
pub grew-none : (known : Option (List ℕ)) → Grew known known
grew-none known = ([], λ held is. is ∙ ap (λ (t : List ℕ). Some t) (sym (append-nil held)))

pub gains-two : (k l m : Option (List ℕ)) (a b : List ℕ) → Gains k l a → Gains l m b → Gains k m (a ++ b)
gains-two k l m a b first then = λ held is. then (held ++ a) (first held is) ∙ ap (λ (t : List ℕ). Some t) (append_assoc held a b)

-- the same, where what is known may be nothing
pub gains-of : (k l : Option (List ℕ)) (b : List ℕ) → Appends k l b → Gains k l b
gains-of None l b h held is = cc
gains-of (Some xs) None b h held is = absurd h
gains-of (Some xs) (Some ys) b h held is =
    let same : xs ≡ held = cc is in
    ap (λ (t : List ℕ). Some t) (h ∙ ap (λ (t : List ℕ). t ++ b) same)

-- some text, and then some more
pub grew-more : (k l m : Option (List ℕ)) → Grew k l → Grew l m → Grew k m
grew-more k l m first then = (first.0 ++ then.0, gains-two k l m first.0 then.0 first.1 then.1)

pub grows-none : (fault : Option TextFault) (known : Option (List ℕ)) → Grows fault fault known known
grows-none fault known = ((λ e. e), λ e. grew-none known)

-- what has not failed, had not failed earlier
pub not-before : (a b : Bool) → (a ≡ true → b ≡ true) → b ≡ false → a ≡ false
not-before true b stays is = absurd (false≢true (sym is ∙ stays refl))
not-before false b stays is = refl

pub grows-more : (x y z : Option TextFault) (k l m : Option (List ℕ)) → Grows x y k l → Grows y z l m → Grows x z k m
grows-more x y z k l m one two = (
  (λ e. two.0 (one.0 e)),
  λ well. grew-more k l m (one.1 (not-before (failed_by y) (failed_by z) two.0 well)) (two.1 well),
)

-- no octets came, and nothing was said
pub goes-none : {A : Type 0} (P : List ℕ → Type 0) (c : Connection) (e : RunExplainer A) → P [] → GoesOn false c e P [] c e
goes-none P c e p = λ form s b text said. (
  [],
  subst (λ (o : List ℕ). IsExplained false form s o c e (text ++ [])) (sym (append-nil b))
      (subst (λ (t : List ℕ). IsExplained false form s b c e t) (sym (append-nil text)) said),
  p,
)

pub goes-more : {A : Type 0} (refused : Bool) (P Q R : List ℕ → Type 0) (c c' c'' : Connection) (e e' e'' : RunExplainer A)
    (a b : List ℕ) → ((x y : List ℕ) → P x → Q y → R (x ++ y)) → GoesOn false c e P a c' e'
    → GoesOn refused c' e' Q b c'' e'' → GoesOn refused c e R (a ++ b) c'' e''
goes-more refused P Q R c c' c'' e e' e'' a b join one two = λ form s o text said.
    let first = one form s o text said in
    let second = two form s (o ++ a) (text ++ first.0) first.1 in (
      first.0 ++ second.0,
      subst (λ (t : List ℕ). IsExplained refused form s t c'' e'' (text ++ (first.0 ++ second.0))) (append_assoc o a b)
          (subst (λ (t : List ℕ). IsExplained refused form s ((o ++ a) ++ b) c'' e'' t) (append_assoc text first.0 second.0) second.1),
      join first.0 second.0 first.2 second.2,
    )

-- memory was refused: what is said holds for more octets too
pub goes-cut : {A : Type 0} (P : List ℕ → Type 0) (c c' : Connection) (e e' : RunExplainer A) (a b : List ℕ)
    → GoesOn true c e P a c' e' → GoesOn true c e P (a ++ b) c' e'
goes-cut P c c' e e' a b one = λ form s o text said.
    let first = one form s o text said in (
      first.0,
      λ later. subst (λ (t : List ℕ). IsExplanation form true s t (text ++ first.0)) (joined o a b later) (first.1 (b ++ later)),
      first.2,
    )
  where
    joined : (o a b later : List ℕ) → (o ++ a) ++ (b ++ later) ≡ (o ++ (a ++ b)) ++ later
    joined o a b later = append_assoc o a (b ++ later) ∙ ap (λ (t : List ℕ). o ++ t) (sym (append_assoc a b later)) ∙ sym (append_assoc o (a ++ b) later)
