-- A connection is made of its parts and its book, and taken apart again.
use Rattle.std.proofs.Common.{◌≡◌, ◌∙◌, ℕ, List, [], ap, subst, sym}
use Rattle.h2_spec.specs.Requests.Answer.{Entry}
use Rattle.h2_spec.specs.State.{State}
use Rattle.h2_conn.specs.Connection.{Connection, going}
use Rattle.h2_conn.specs.Parts.{AreOfBook, PartsView, parts_of, state_of}
use Rattle.h2_conn.specs.Runs.{Fed}
use Rattle.h2_embed.proofs.BookLaws.{fed-book}

-- the parts of a state with its book are that state
pub whole : (book : List Entry) (p : PartsView) (s : State) → p ≡ parts_of s → s.book ≡ book → state_of book p ≡ s
whole book p s is same = ap (state_of book) is ∙ ap (λ (b : List Entry). state_of b (parts_of s)) (sym same)

pub of-book : (book : List Entry) (p : PartsView) (s : State) → s.book ≡ book → AreOfBook s.book p → AreOfBook book p
of-book book p s same h = subst (λ (b : List Entry). AreOfBook b p) same h

-- a connection that was made of a book and fed has that book
pub book-kept : (book : List Entry) (p : PartsView) (c : Connection) (s : State) (more out out' held held' : List ℕ) → c ≡ going (state_of book p) []
    → Fed (going c.state held) more out (going s held') out' → s.book ≡ book
book-kept book p c s more out out' held held' is fed = fed-book (going c.state held) more out (going s held') out' fed ∙ ap (λ (d : Connection). d.state.book) is

-- a connection that was made of a state is that of its own state
pub rests : (c : Connection) (s : State) → c ≡ going s [] → c ≡ going c.state []
rests c s is = is ∙ ap (λ (d : Connection). going d.state []) (sym is)

-- what is true of the connections that were made and fed is true of their states
pub between : (P : Connection → Connection → Type 0) (c c' : Connection) (s s' : State) → c ≡ going s [] → c' ≡ going c'.state [] → s' ≡ c'.state → P c c' → P (going s []) (going s' [])
between P c c' s s' is ready same x =
    subst (λ (t : State). P (going s []) (going t [])) (sym same) (subst (λ (d : Connection). P (going s []) d) ready (subst (λ (d : Connection). P d c') is x))
