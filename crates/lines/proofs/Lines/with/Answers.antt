-- `Lines::with` meets its contract: the lines below the new one, that one, and the lines above. Assumes nothing.
use Rattle.std.proofs.Common.{arith, sym, ◌∙◌, ap, map, length, ltb, ◌≡◌, ◌<◌, ◌≤◌, ◌+◌, ◌++◌, ◌∷◌, [], length-append, lt-ltb}
use Rattle.std.proofs.lemmas.List.{length-map}
use Rattle.lists.specs.Keyed.{insert}
use Rattle.lines.specs.Search.{place, place_most}
use Rattle.lines.proofs.Listed.{written_count, pushed, put_in}
use Rattle.lines.proofs.Lines.with.Goals as goal

pub split_at-requires : goal.split_at-requires
split_at-requires g c =
    let v = g.Self.Lines in
    let most = place_most (λ m. ltb c.key.result (v.name m)) (v.reading c.args.self.now) in
    omega (arith, c.place_above.ensures, most, length-map c.listed-listed.result.now v.shape.view, ap length c.listed-listed.ensures.reads)

pub returns : goal.returns
returns g c =
    let v = g.Self.Lines in
    let m = g.met.Self.Lines in
    let ls = c.listed-listed.result.now in
    let few : length ls < v.shape.limit = omega (arith, c.listed-listed.ensures.few, c.lines.ensures.long, c.if-listed-lines.false) in
    let many : length (v.reading c.args.self.now) ≡ length ls = sym (ap length c.listed-listed.ensures.reads) ∙ length-map ls v.shape.view in
    let low = c.extend.ensures [] (omega (arith, few, c.split_at.ensures.front_len, c.split_at.ensures.back_len)) c.new-grown.ensures in
    let count = ap v.count_of low ∙ written_count v.shape v.count_of v.lines_of v.made v.written m.writes m.counts m.lines_made _ in
    let room : v.count_of c.extend.new.self < v.shape.limit = omega (arith, few, count, length-map c.split_at.result.0.now v.shape.view, c.split_at.ensures.front_len, c.split_at.ensures.back_len) in
    let line = pushed v.shape v.count_of v.lines_of v.made v.written m.writes m.counts m.lines_made c.extend.new.self c.push.new.self c.args.line _ room (c.push.ensures.room room) low in
    let at : c.place_above.result ≡ place (λ m. ltb (v.name (v.shape.view c.args.line)) (v.name m)) (map v.shape.view ls) = c.place_above.ensures ∙ rw (c.key.ensures, c.listed-listed.ensures.reads) in
    let lows = map v.shape.view c.split_at.result.0.now in
    let fits : length (lows ++ v.shape.view c.args.line ∷ []) + length c.split_at.result.1.now ≤ v.shape.limit = simp length-append (omega (arith, few, length-map c.split_at.result.0.now v.shape.view, c.split_at.ensures.front_len, c.split_at.ensures.back_len)) in
    rw (lt-ltb (length (v.reading c.args.self.now)) v.shape.limit (omega (arith, few, many)))
    (c.extend-2.ensures _ fits line ∙ ap v.written (put_in v.shape v.name ls _ _ _ _ c.split_at.ensures.front c.split_at.ensures.back at ∙ ap (insert v.name (v.shape.view c.args.line)) c.listed-listed.ensures.reads))
