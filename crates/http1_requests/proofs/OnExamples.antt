-- What computes on literals.
use Rattle.std.specs.Prelude.{⊤}
use Rattle.httparse.proofs.OnLiterals.{httparse_on_literals}
use Rattle.http1.specs.Text.{eq_ignore_case}
use Rattle.http1.specs.Fields.{elements}
use Rattle.http1_requests.specs.HeadEnd.{line_size, size_to_empty_line, head_size, behind_empty_lines}
use Rattle.http1_requests.specs.GrammarReading.{before, from, empty_lines_within, fields_within, behind_fields, section_in, head_in, chunk_line_in}
use Rattle.http1_requests.specs.ChunkedBody.{decoded_within, decoded}
use Rattle.http1_requests.specs.ClientRequests.{requests_within, client_requests}

-- the definitions that stand folded, of ends
unfoldable pub on_ends : ⊤
unfolding httparse_on_literals eq_ignore_case elements line_size size_to_empty_line head_size behind_empty_lines
on_ends = tt

-- those and the ones of the grammar
unfoldable pub on_heads : ⊤
unfolding on_ends before from empty_lines_within fields_within behind_fields section_in head_in chunk_line_in
on_heads = tt

-- all of them
unfoldable pub on_examples : ⊤
unfolding on_heads decoded_within decoded requests_within client_requests
on_examples = tt
