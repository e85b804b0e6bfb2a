-- The words of a report for a reply are read as the reply.
use Rattle.apex_logs.proofs.Common.{◌≡◌, ℕ, ◌+◌, ◌-◌, ◌*◌, ◌/◌, ◌%◌, ◌^◌, ◌<◌, ◌≤◌, Bool, true, false, not, eqb, cond, List, [], ◌∷◌, ◌++◌, length, get_or, Some, None, Result, Ok, Err, refl, sym, ap, subst, ◌∙◌, append_assoc, length-append, leb, arith, codes, decimal, filter, All, is_blank, is_digit, words_of, digits_after, number_up_to}
use Rattle.std.specs.List.{slice_split}
use Rattle.std.specs.Str.{bytes_eq}
use Rattle.std.proofs.lemmas.Bool.Decides.{nat_tests}
use Rattle.std.proofs.lemmas.List.Elements.{All-nil, All-cons, All-push}
use Rattle.std.proofs.lemmas.List.Splits.{slice_split_none, slice_split_at}
use Rattle.std.proofs.lemmas.Fmt.{decimal_by_steps}
use Rattle.std.proofs.lemmas.Slice.Eq.{bytes_eq-Decides}
use Rattle.hex.specs.Hex.{decode_of, is_hex_digit, lower_digits}
use Rattle.hex.specs.declared.error.FromHexError.{FromHexError}
use Rattle.hex.specs.declared.error.FromHexError.TheVariants as hex
use Rattle.hex.proofs.HexLemmas.{decode_of-ok, length-encode_with}
use Rattle.apex_types.specs.Direction.{word_of as direction_word}
use Rattle.apex_types.specs.Message.{hex_text_of, message_of_digits, message_of_hex, empty_word}
use Rattle.apex_types.specs.Validity.{word_of as validity_word}
use Rattle.apex_types.specs.declared.direction.Direction.{Direction}
use Rattle.apex_types.specs.declared.direction.Direction.TheVariants.{Source, Destination}
use Rattle.apex_types.specs.declared.reply.Reply.TheVariants as replies
use Rattle.apex_types.specs.declared.return_code.ReturnCode.{ReturnCode}
use Rattle.apex_types.specs.declared.return_code.ReturnCode.TheVariants.{NoError, NoAction, NotAvailable, InvalidParam, InvalidConfig, InvalidMode, TimedOut}
use Rattle.apex_types.specs.declared.validity.Validity.{Validity}
use Rattle.apex_types.specs.declared.validity.Validity.TheVariants.{Invalid, Valid}
use Rattle.apex_texts.specs.declared.arguments.TheConstants.{NUMBER_LIMIT}
use Rattle.apex_texts.specs.Report.{reply_text, queuing_status_text, sampling_status_text}
use Rattle.apex_logs.specs.declared.reply_words.TheConstants.{REFRESH_LIMIT}
use Rattle.apex_logs.specs.ReplyWords.{not_made_at, id_at, message_reply_at, queuing_status_at, sampling_status_at, data_at, behind_code, reply_by, reply_of}

-- ---- words

-- some bytes, and none of them blank
pub record IsWord (word : List ℕ) : Type 0 where
  pub some : 0 < length word
  pub whole : All (λ byte. is_blank byte ≡ false) word

part-word : (part : List ℕ) (parts : List (List ℕ)) → 0 < length part → filter (λ part. not (eqb (length part) 0)) (part ∷ parts) ≡ part ∷ filter (λ part. not (eqb (length part) 0)) parts
part-word part parts some =
    let long : eqb (length part) 0 ≡ false = grind (arith, some) in
    rw long refl

-- a word in front of a space
word_first : (word rest : List ℕ) → IsWord word → words_of (word ++ 32 ∷ rest) ≡ word ∷ words_of rest
word_first word rest is = ap (λ parts. filter (λ part. not (eqb (length part) 0)) parts) (slice_split_at is_blank word 32 rest is.whole refl) ∙ part-word word (slice_split is_blank rest) is.some

-- a word by itself
word_last : (word : List ℕ) → IsWord word → words_of word ≡ word ∷ []
word_last word is = ap (λ parts. filter (λ part. not (eqb (length part) 0)) parts) (slice_split_none is_blank word is.whole) ∙ part-word word [] is.some

-- ---- numbers

-- digits that are read as a number, of which none is blank
record IsNumber (n : ℕ) (digits : List ℕ) : Type 0 where
  read : digits_after 0 digits ≡ Some n
  word : IsWord digits

digits_push_by : (value number byte first : ℕ) (rest : List ℕ) (b : Bool) → is_digit byte ≡ true
    → (digits_after (value * 10 + (first - 48)) rest ≡ Some number → digits_after (value * 10 + (first - 48)) (rest ++ byte ∷ []) ≡ Some (number * 10 + (byte - 48)))
    → cond b (digits_after (value * 10 + (first - 48)) rest) None ≡ Some number → cond b (digits_after (value * 10 + (first - 48)) (rest ++ byte ∷ [])) None ≡ Some (number * 10 + (byte - 48))
digits_push_by value number byte first rest true digit later read = later read
digits_push_by value number byte first rest false digit later read = absurd cc

-- a digit more
digits_push : (value number byte : ℕ) (digits : List ℕ) → is_digit byte ≡ true → digits_after value digits ≡ Some number → digits_after value (digits ++ byte ∷ []) ≡ Some (number * 10 + (byte - 48))
digits_push value number byte [] digit read =
    let same : value ≡ number = cc in
    rw digit (ap (λ n. Some (n * 10 + (byte - 48))) same)
digits_push value number byte (first ∷ rest) digit read =
    digits_push_by value number byte first rest (is_digit first) digit (digits_push (value * 10 + (first - 48)) number byte rest digit) read

last_digit : (d : ℕ) → d < 10 → is_digit (48 + d) ≡ true
last_digit d small = grind (arith, nat_tests)

digit_no_blank : (d : ℕ) → is_blank (48 + d) ≡ false
digit_no_blank d = grind (arith, nat_tests)

abbrev NotBlank : ℕ → Type 0
NotBlank byte = is_blank byte ≡ false

number_digit : (n : ℕ) → n < 10 → IsNumber n ((48 + n) ∷ [])
number_digit n small = record {
  read =
      let digit = last_digit n small in
      rw digit (ap (λ (k : ℕ). Some k) (omega arith));
  word = record {
    some = omega arith;
    whole = All-cons NotBlank (48 + n) [] (digit_no_blank n) (All-nil NotBlank);
  };
}

number_more : (n : ℕ) (digits : List ℕ) → 10 ≤ n → IsNumber (n / 10) digits → IsNumber n (digits ++ (48 + n % 10) ∷ [])
number_more n digits great before = record {
  read =
      let small : n % 10 < 10 = omega arith in
      digits_push 0 (n / 10) (48 + n % 10) digits (last_digit (n % 10) small) before.read ∙ ap (λ (k : ℕ). Some k) (omega arith);
  word = record {
    some = simp length-append (omega (arith, before.word.some));
    whole = All-push NotBlank digits (48 + n % 10) before.word.whole (digit_no_blank (n % 10));
  };
}

number : (n : ℕ) → n < 2 ^ 64 → IsNumber n (decimal n)
number n small = decimal_by_steps IsNumber number_digit number_more n small

-- a number in decimal is read as the number
number_reads : (limit n : ℕ) → n ≤ limit → n < 2 ^ 64 → number_up_to limit (decimal n) ≡ Some n
number_reads limit n within small =
    let is = number n small in
    let long : eqb (length (decimal n)) 0 ≡ false = not_empty (length (decimal n)) is.word.some in
    let fits : leb n limit ≡ true = grind (arith, nat_tests) in
    rw (long, is.read, fits) refl
  where
    not_empty : (k : ℕ) → 0 < k → eqb k 0 ≡ false
    not_empty k some = grind (arith, nat_tests)

-- ---- messages

hex_no_blank : (byte : ℕ) → is_hex_digit byte ≡ true → is_blank byte ≡ false
hex_no_blank byte is = grind (arith, is)

digits_whole : (text message : List ℕ) (decoded : Result (List ℕ) FromHexError) → decode_of text ≡ decoded → message_of_digits decoded ≡ Ok message → All NotBlank text
digits_whole text message (Ok bytes) is read = λ k d lt. hex_no_blank (get_or text k d) ((decode_of-ok text bytes is).1 k d lt)
digits_whole text message (Err hex.OddLength) is read = absurd cc
digits_whole text message (Err (hex.InvalidHexCharacter c i)) is read = absurd cc
digits_whole text message (Err hex.InvalidStringLength) is read = absurd cc
digits_whole text message (Err hex.OutOfMemory) is read = absurd cc

text_whole : (text message : List ℕ) (b : Bool) → bytes_eq text empty_word ≡ b → cond b (Ok []) (message_of_digits (decode_of text)) ≡ Ok message → All NotBlank text
text_whole text message true is read = subst (All NotBlank) (sym ((bytes_eq-Decides text empty_word).0 is)) (All-cons NotBlank 45 [] refl (All-nil NotBlank))
text_whole text message false is read = digits_whole text message (decode_of text) refl read

text_some : (message : List ℕ) → 0 < length (hex_text_of message)
text_some [] = omega arith
text_some (byte ∷ rest) = omega (arith, length-encode_with lower_digits (byte ∷ rest))

-- the text of a message is a word
message_word : (message : List ℕ) → message_of_hex (hex_text_of message) ≡ Ok message → IsWord (hex_text_of message)
message_word message back = record {
  some = text_some message;
  whole = text_whole (hex_text_of message) message (bytes_eq (hex_text_of message) empty_word) refl back;
}

-- ---- replies

pub not_made_back : reply_of (words_of (reply_text replies.NotMade)) ≡ Ok replies.NotMade
unfolding reply_text reply_of reply_by not_made_at
not_made_back = refl

pub code_back : (code : ReturnCode) → reply_of (words_of (reply_text (replies.Code code))) ≡ Ok (replies.Code code)
unfolding reply_text reply_of reply_by behind_code
code_back NoError = refl
code_back NoAction = refl
code_back NotAvailable = refl
code_back InvalidParam = refl
code_back InvalidConfig = refl
code_back InvalidMode = refl
code_back TimedOut = refl

pub id_back : (id : ℕ) → id < 2 ^ 32 → reply_of (words_of (reply_text (replies.Id id))) ≡ Ok (replies.Id id)
unfolding reply_text reply_of reply_by behind_code data_at id_at
id_back id small =
    let wide : id < 2 ^ 64 = omega arith in
    let words : words_of (codes "NO_ERROR id " ++ decimal id) ≡ codes "NO_ERROR" ∷ codes "id" ∷ decimal id ∷ [] = ap (λ (xs : List (List ℕ)). codes "NO_ERROR" ∷ codes "id" ∷ xs) (word_last (decimal id) (number id wide).word) in
    let reads = number_reads NUMBER_LIMIT id (omega arith) wide in
    ap reply_of words ∙ rw reads refl

pub received_back : (message : List ℕ) → message_of_hex (hex_text_of message) ≡ Ok message → reply_of (words_of (reply_text (replies.Received message))) ≡ Ok (replies.Received message)
unfolding reply_text reply_of reply_by behind_code data_at message_reply_at
received_back message back =
    let words : words_of (codes "NO_ERROR message " ++ hex_text_of message) ≡ codes "NO_ERROR" ∷ codes "message" ∷ hex_text_of message ∷ [] =
    ap (λ (xs : List (List ℕ)). codes "NO_ERROR" ∷ codes "message" ∷ xs) (word_last (hex_text_of message) (message_word message back)) in
    ap reply_of words ∙ rw back refl

sample_words : (message : List ℕ) (validity : Validity) → message_of_hex (hex_text_of message) ≡ Ok message
    → words_of (codes "NO_ERROR message " ++ hex_text_of message ++ codes " " ++ validity_word validity) ≡ codes "NO_ERROR" ∷ codes "message" ∷ hex_text_of message ∷ words_of (validity_word validity)
sample_words message validity back =
    let grouped : codes "NO_ERROR message " ++ hex_text_of message ++ codes " " ++ validity_word validity ≡ codes "NO_ERROR message " ++ (hex_text_of message ++ (codes " " ++ validity_word validity)) = simp append_assoc in
    ap words_of grouped ∙ ap (λ (xs : List (List ℕ)). codes "NO_ERROR" ∷ codes "message" ∷ xs) (word_first (hex_text_of message) (validity_word validity) (message_word message back))

pub read_back : (message : List ℕ) (validity : Validity) → message_of_hex (hex_text_of message) ≡ Ok message → reply_of (words_of (reply_text (replies.Read message validity))) ≡ Ok (replies.Read message validity)
unfolding reply_text reply_of reply_by behind_code data_at message_reply_at
read_back message Invalid back = ap reply_of (sample_words message Invalid back) ∙ rw back refl
read_back message Valid back = ap reply_of (sample_words message Valid back) ∙ rw back refl

-- ---- statuses

sized : (size : ℕ) (rest : List ℕ) → size < 2 ^ 64 → words_of (codes "size " ++ (decimal size ++ 32 ∷ rest)) ≡ codes "size" ∷ decimal size ∷ words_of rest
sized size rest small = ap (λ (xs : List (List ℕ)). codes "size" ∷ xs) (word_first (decimal size) rest (number size small).word)

queuing_words : (waiting depth size : ℕ) (direction : Direction) → waiting < 2 ^ 64 → depth < 2 ^ 64 → size < 2 ^ 64
    → words_of (queuing_status_text waiting depth size direction) ≡ codes "NO_ERROR" ∷ codes "waiting" ∷ decimal waiting ∷ codes "depth" ∷ decimal depth ∷ codes "size" ∷ decimal size ∷ words_of (direction_word direction ++ codes " processes 0")
unfolding queuing_status_text
queuing_words waiting depth size direction a b c =
    let behind_size = direction_word direction ++ codes " processes 0" in
    let behind_depth = codes "size " ++ (decimal size ++ 32 ∷ behind_size) in
    let behind_waiting = codes "depth " ++ (decimal depth ++ 32 ∷ behind_depth) in
    let grouped : queuing_status_text waiting depth size direction ≡ codes "NO_ERROR waiting " ++ (decimal waiting ++ 32 ∷ behind_waiting) = simp append_assoc in
    let depths : words_of behind_waiting ≡ codes "depth" ∷ decimal depth ∷ codes "size" ∷ decimal size ∷ words_of behind_size =
    ap (λ (xs : List (List ℕ)). codes "depth" ∷ xs) (word_first (decimal depth) behind_depth (number depth b).word) ∙ ap (λ (xs : List (List ℕ)). codes "depth" ∷ decimal depth ∷ xs) (sized size behind_size c) in
    ap words_of grouped
    ∙ ap (λ (xs : List (List ℕ)). codes "NO_ERROR" ∷ codes "waiting" ∷ xs) (word_first (decimal waiting) behind_waiting (number waiting a).word)
    ∙ ap (λ (xs : List (List ℕ)). codes "NO_ERROR" ∷ codes "waiting" ∷ decimal waiting ∷ xs) depths

pub queuing_back : (waiting depth size : ℕ) (direction : Direction) → waiting < 2 ^ 32 → depth < 2 ^ 32 → size < 2 ^ 32
    → reply_of (words_of (reply_text (replies.QueuingStatus waiting depth size direction))) ≡ Ok (replies.QueuingStatus waiting depth size direction)
unfolding reply_text reply_of reply_by behind_code data_at queuing_status_at
queuing_back waiting depth size Source a b c =
    let of_waiting = number_reads NUMBER_LIMIT waiting (omega arith) (omega arith) in
    let of_depth = number_reads NUMBER_LIMIT depth (omega arith) (omega arith) in
    let of_size = number_reads NUMBER_LIMIT size (omega arith) (omega arith) in
    ap reply_of (queuing_words waiting depth size Source (omega arith) (omega arith) (omega arith)) ∙ rw (of_waiting, of_depth, of_size) refl
queuing_back waiting depth size Destination a b c =
    let of_waiting = number_reads NUMBER_LIMIT waiting (omega arith) (omega arith) in
    let of_depth = number_reads NUMBER_LIMIT depth (omega arith) (omega arith) in
    let of_size = number_reads NUMBER_LIMIT size (omega arith) (omega arith) in
    ap reply_of (queuing_words waiting depth size Destination (omega arith) (omega arith) (omega arith)) ∙ rw (of_waiting, of_depth, of_size) refl

sampling_words : (refresh size : ℕ) (direction : Direction) (last : Validity) → refresh < 2 ^ 64 → size < 2 ^ 64
    → words_of (sampling_status_text refresh size direction last) ≡ codes "NO_ERROR" ∷ codes "refresh" ∷ decimal refresh ∷ codes "size" ∷ decimal size ∷ words_of (direction_word direction ++ (codes " last " ++ validity_word last))
unfolding sampling_status_text
sampling_words refresh size direction last a b =
    let behind_size = direction_word direction ++ (codes " last " ++ validity_word last) in
    let behind_refresh = codes "size " ++ (decimal size ++ 32 ∷ behind_size) in
    let grouped : sampling_status_text refresh size direction last ≡ codes "NO_ERROR refresh " ++ (decimal refresh ++ 32 ∷ behind_refresh) = simp append_assoc in
    ap words_of grouped
    ∙ ap (λ (xs : List (List ℕ)). codes "NO_ERROR" ∷ codes "refresh" ∷ xs) (word_first (decimal refresh) behind_refresh (number refresh a).word)
    ∙ ap (λ (xs : List (List ℕ)). codes "NO_ERROR" ∷ codes "refresh" ∷ decimal refresh ∷ xs) (sized size behind_size b)

sampling_by : (refresh size : ℕ) (direction : Direction) (last : Validity) (end : List (List ℕ)) → refresh < 2 ^ 64 → size < 2 ^ 32
    → words_of (direction_word direction ++ (codes " last " ++ validity_word last)) ≡ end
    → sampling_status_at (decimal refresh ∷ codes "size" ∷ decimal size ∷ end) ≡ Ok (replies.SamplingStatus refresh size direction last)
    → reply_of (words_of (reply_text (replies.SamplingStatus refresh size direction last))) ≡ Ok (replies.SamplingStatus refresh size direction last)
unfolding reply_text reply_of reply_by behind_code data_at
sampling_by refresh size direction last end a b ends read =
    ap reply_of (sampling_words refresh size direction last a (omega arith)) ∙ ap (λ (xs : List (List ℕ)). sampling_status_at (decimal refresh ∷ codes "size" ∷ decimal size ∷ xs)) ends ∙ read

pub sampling_back : (refresh size : ℕ) (direction : Direction) (last : Validity) → refresh < 2 ^ 64 → size < 2 ^ 32
    → reply_of (words_of (reply_text (replies.SamplingStatus refresh size direction last))) ≡ Ok (replies.SamplingStatus refresh size direction last)
unfolding sampling_status_at
sampling_back refresh size Source Invalid a b =
    let of_refresh = number_reads REFRESH_LIMIT refresh (omega arith) a in
    let of_size = number_reads NUMBER_LIMIT size (omega arith) (omega arith) in
    sampling_by refresh size Source Invalid (codes "SOURCE" ∷ codes "last" ∷ codes "INVALID" ∷ []) a b refl (rw (of_refresh, of_size) refl)
sampling_back refresh size Source Valid a b =
    let of_refresh = number_reads REFRESH_LIMIT refresh (omega arith) a in
    let of_size = number_reads NUMBER_LIMIT size (omega arith) (omega arith) in
    sampling_by refresh size Source Valid (codes "SOURCE" ∷ codes "last" ∷ codes "VALID" ∷ []) a b refl (rw (of_refresh, of_size) refl)
sampling_back refresh size Destination Invalid a b =
    let of_refresh = number_reads REFRESH_LIMIT refresh (omega arith) a in
    let of_size = number_reads NUMBER_LIMIT size (omega arith) (omega arith) in
    sampling_by refresh size Destination Invalid (codes "DESTINATION" ∷ codes "last" ∷ codes "INVALID" ∷ []) a b refl (rw (of_refresh, of_size) refl)
sampling_back refresh size Destination Valid a b =
    let of_refresh = number_reads REFRESH_LIMIT refresh (omega arith) a in
    let of_size = number_reads NUMBER_LIMIT size (omega arith) (omega arith) in
    sampling_by refresh size Destination Valid (codes "DESTINATION" ∷ codes "last" ∷ codes "VALID" ∷ []) a b refl (rw (of_refresh, of_size) refl)
