-- The fields that pairs say, one after another.
use Rattle.std.proofs.Common.{◌≡◌, List, [], ◌∷◌, ◌++◌, Option, Some, None, option_map, sym, ap, refl, append_assoc}
use Rattle.toml.specs.Data.{Data, Items, item}
use Rattle.h2_spec.specs.Hpack.Field.{Field}
use Rattle.h2_spec.specs.Requests.AnswerWords.{with_field}
use Rattle.h2_cmd_book_file.specs.AnswerTable.{header_said, headers_in}

-- the fields so far, before those that pairs say
abbrev pub fields_after : List Field → Items → Option (List Field)
fields_after fields pairs = option_map (λ fs. fields ++ fs) (headers_in pairs)

pub fields-next : (fields : List Field) (d : Data) (ds : Items) (f : Field) → Some f ≡ header_said d → fields_after fields (item d ds) ≡ fields_after (fields ++ f ∷ []) ds
fields-next fields d ds f e = rw (← e) (go (headers_in ds))
  where
    go : (o : Option (List Field)) → option_map (λ fs. fields ++ fs) (with_field (Some f) o) ≡ option_map (λ fs. (fields ++ f ∷ []) ++ fs) o
    go None = refl
    go (Some fs) = ap Some (sym (append_assoc fields (f ∷ []) fs))

pub fields-none : (fields : List Field) (d : Data) (ds : Items) → None ≡ header_said d → fields_after fields (item d ds) ≡ None
fields-none fields d ds e = rw (← e) refl
