use Rattle.std.proofs.Common.{◌≡◌, ◌<◌, drop}
use Rattle.book_check.specs.Chain.{buckets, hash_of}
use Rattle.book_check.proofs.chain.bucket_of.Given as goal

abbrev pub invariant-loop-byte : goal.invariant-loop-byte
invariant-loop-byte l = record {
  small : l.hash < buckets;
  goes_on : hash_of l.word 0 ≡ hash_of (drop l.byte-index l.word) l.hash;
}
