-- Words that say no answer.
use Rattle.std.proofs.Common.{◌≡◌, ℕ, List, Option, Some, None, Err, inl, inr, ◌⊎◌, refl}
use Rattle.h2_spec.specs.Requests.Answer.{Entry}
use Rattle.h2_spec.specs.Requests.AnswerWords.{entry_of}
use Rattle.h2_cmd_play.specs.AnswerParts.{refusal_of}
use Rattle.h2_cmd_play.specs.Books.{added_by, with_answer}
use Rattle.h2_cmd_play.specs.Faults.{fault_number}
use Rattle.h2_cmd_play.specs.declared.fault.AnswerFault.{AnswerFault}
use Rattle.h2_cmd_play.specs.declared.fault.AnswerFault.TheVariants.{NoMemory}

by_entry : (b : List Entry) (e : Option Entry) (fault : AnswerFault) → fault ≡ refusal_of e → (fault ≡ NoMemory) ⊎ (added_by b e ≡ Err (fault_number fault))
by_entry b None fault h = inr (rw h refl)
by_entry b (Some e) fault h = inl h

-- the word says no entry, or memory was refused
pub word_refused : (b : List Entry) (word : List ℕ) (fault : AnswerFault) → fault ≡ refusal_of (entry_of word) → (fault ≡ NoMemory) ⊎ (with_answer b word ≡ Err (fault_number fault))
unfolding with_answer
word_refused b word fault h = by_entry b (entry_of word) fault h
