use Rattle.apex_orders.proofs.Common.{◌≡◌, ◌<◌, length, get_or, ap, sym, ◌∙◌, arith, rules, slice_get-get_or, get_or_from_slice_get, at_index, bucket_of}
use Rattle.apex_orders.proofs.BucketLemmas.{filed_one}
use Rattle.apex_orders.proofs.hash_index.file.Goals as goal

pub returns : goal.returns
returns c =
    let hashes = c.args.hashes.now in
    let last = c.args.last.now.items in
    let hash = get_or hashes c.args.index 0 in
    let b = c.bucket_of-b.result in
    let place = c.index-place.result.now in
    let count : c.len.result ≡ length last = search rules in
    let within : b < length last = omega arith in
    filed_one hashes c.args.earlier.now.items last c.args.index hash b place c.requires.filed
    (slice_get-get_or hashes c.args.index 0 c.requires.within) (c.bucket_of-b.ensures ∙ ap (bucket_of hash) count) within
    (sym (get_or_from_slice_get last b place 0 (at_index last b place within c.index-place.ensures)))
