use Rattle.std.proofs.Common.{◌≡◌, ◌≤◌, not, take}
use Rattle.std.specs.List.{suffix_len}
use Rattle.chk_base.specs.Places.{is_line_feed}
use Rattle.chk_base.proofs.place.since_line_feed.Given as goal

abbrev pub invariant-loop-byte : goal.invariant-loop-byte
invariant-loop-byte l =
    record {
      count : l.count ≡ suffix_len (λ b. not (is_line_feed b)) (take l.byte-index l.before);
      few : l.count ≤ l.byte-index;
    }
