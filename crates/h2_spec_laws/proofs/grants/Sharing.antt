-- Each stream's share by its formula, and that the shares are what is sent.
use Rattle.std.proofs.Common.{◌≡◌, ℕ, ◌+◌, ◌-◌, min, List, [], ◌∷◌, ◌++◌, refl, ap, ◌∙◌, arith, Some}
use Rattle.h2_spec.specs.declared.streams.Stream.{Stream}
use Rattle.h2_spec.specs.Window.{sendable}
use Rattle.h2_spec.specs.Stream.{octets_waiting}
use Rattle.h2_spec.specs.Requests.Answer.{Entry}
use Rattle.h2_spec.specs.SendPending.{allowance, allowance_frames, after_sending, sent_frames, all_after_sending, window_left}
use Rattle.h2_spec_laws.specs.Allowances.{allowances, total, AllowanceIsLeast, SendsAllowances}

pub allowance-least : (window : ℕ) (before : List Stream) (st : Stream) (behind : List Stream) → AllowanceIsLeast window before st behind
unfolding allowance
allowance-least window [] st behind = ap (λ w. Some (min (min (octets_waiting st) (sendable st.numbers.send)) w)) (omega arith)
allowance-least window (x ∷ before) st behind =
    let less : window - allowance window x - total (allowances (window - allowance window x) before) ≡ window - (allowance window x + total (allowances (window - allowance window x) before)) = omega arith in
    allowance-least (window - allowance window x) before st behind ∙ ap (λ w. Some (min (min (octets_waiting st) (sendable st.numbers.send)) w)) less

pub allowances-sent : (book : List Entry) (size window : ℕ) (sts : List Stream) → SendsAllowances book size window sts
unfolding sent_frames all_after_sending window_left
allowances-sent book size window [] = record { frames = refl; records = refl; left = omega arith }
allowances-sent book size window (st ∷ sts) =
    let more = allowances-sent book size (window - allowance window st) sts in
    record {
      frames = ap (λ fs. allowance_frames book size (allowance window st) st ++ fs) more.frames;
      records = ap (λ rs. after_sending (allowance window st) st ∷ rs) more.records;
      left = more.left ∙ (omega arith);
    }
