use Rattle.std.proofs.Common.{[], ◌∷◌, ◌++◌, refl, sym, ap, ◌∙◌, w64, SFits, rules}
use Rattle.std.proofs.lemmas.Int.{to_z-of_z}
use Rattle.base.specs.Bytes.{be}
use Rattle.block.specs.Drafts.{written}
use Rattle.block.specs.Format.{bytes_of, key_bytes, value_bytes}
use Rattle.block.proofs.Laying.{joins, be_same}
use Rattle.block.proofs.draft.Draft.append_entry.Goals as goal

pub returns-in-Put-clause-bytes : goal.returns-in-Put-clause-bytes
returns-in-Put-clause-bytes c =
    let fit : SFits w64 c.in-Put.value = search rules in
    let w = written c.args.self.now in
    let key = key_bytes c.in-Put.key in
    let value = value_bytes c.in-Put.value in
    let rest = joins (written c.append-in-Put.new.self) key value c.append_key.ensures.bytes c.append-in-Put-2.ensures.bytes (c.to_be_bytes-in-Put.ensures ∙ be_same 8 _ ∙ ap value_bytes (to_z-of_z w64 c.in-Put.value fit)) in
    joins w (2 ∷ []) (key ++ value) c.append-in-Put.ensures.bytes rest refl ∙ ap (λ e. w ++ bytes_of e) (sym c.in-Put.is)

pub returns-in-Del-clause-bytes : goal.returns-in-Del-clause-bytes
returns-in-Del-clause-bytes c =
    let w = written c.args.self.now in
    joins w (3 ∷ []) (key_bytes c.in-Del.key) c.append-in-Del.ensures.bytes c.append_key-in-Del.ensures.bytes refl ∙ ap (λ e. w ++ bytes_of e) (sym c.in-Del.is)

pub returns-in-Row-clause-bytes : goal.returns-in-Row-clause-bytes
returns-in-Row-clause-bytes c =
    let fit : SFits w64 c.in-Row.value = search rules in
    let w = written c.args.self.now in
    let tid = be 8 c.in-Row.tid in
    let key = key_bytes c.in-Row.key in
    let value = value_bytes c.in-Row.value in
    let tail = joins (written c.append-in-Row-2.new.self) key value c.append_key-in-Row.ensures.bytes c.append-in-Row-3.ensures.bytes (c.to_be_bytes-in-Row-2.ensures ∙ be_same 8 _ ∙ ap value_bytes (to_z-of_z w64 c.in-Row.value fit)) in
    let rest = joins (written c.append-in-Row.new.self) tid (key ++ value) (c.append-in-Row-2.ensures.bytes ∙ ap (λ l. written c.append-in-Row.new.self ++ l) (c.to_be_bytes-in-Row.ensures ∙ be_same 8 c.in-Row.tid)) tail refl in
    joins w (4 ∷ []) (tid ++ (key ++ value)) c.append-in-Row.ensures.bytes rest refl ∙ ap (λ e. w ++ bytes_of e) (sym c.in-Row.is)

pub returns-in-Gone-clause-bytes : goal.returns-in-Gone-clause-bytes
returns-in-Gone-clause-bytes c =
    let w = written c.args.self.now in
    let tid = be 8 c.in-Gone.tid in
    let key = key_bytes c.in-Gone.key in
    let rest = joins (written c.append-in-Gone.new.self) tid key (c.append-in-Gone-2.ensures.bytes ∙ ap (λ l. written c.append-in-Gone.new.self ++ l) (c.to_be_bytes-in-Gone.ensures ∙ be_same 8 c.in-Gone.tid)) c.append_key-in-Gone.ensures.bytes refl in
    joins w (5 ∷ []) (tid ++ key) c.append-in-Gone.ensures.bytes rest refl ∙ ap (λ e. w ++ bytes_of e) (sym c.in-Gone.is)
